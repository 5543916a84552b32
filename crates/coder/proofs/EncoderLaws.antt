-- The encoder by lags is the register under its two masks.
-- Assumes nothing.
use mathlib.Core.Path.{◌≡◌, refl, sym, ap₂}
use mathlib.Core.Bool.{Bool, true, false}
use mathlib.Core.List.{List, [], ◌∷◌}
use Prim.Native.Nat.{ℕ, zero, suc, ◌+◌, ◌-◌, ◌*◌, ◌/◌, ◌%◌, ◌<◌}
use native.Mathlib.Nat.{suc-sub-suc}
use native.Mathlib.Omega.{arith}
use lib.Dec.{T, leb, eqb, leb-suc-suc, eqb→eq}
use lib.ListN.{length, get_or}
use lib.Count.{ones, ones_in}
use borrow.Author.Tests.{le-leb, lt-leb}
use Rattle.laws.specs.Lists.{choose}
use Rattle.laws.proofs.Tables.{both, both_left, both_right}
use Rattle.coder.specs.Encoder.{lag, lags_x, lags_y, tapped, coded}
use Rattle.coder.specs.Register.{entered, register, parity, mask_x, mask_y}

-- every input is a bit
abbrev pub Bits : List ℕ → Type 0
Bits w = (t : ℕ) → get_or w t 0 < 2

-- what stands k before place t + k stands at place t
pub lag_back : (w : List ℕ) (t k m : ℕ) → m ≡ t + k → lag w m k ≡ get_or w t 0
unfolding lag
lag_back w t k m e =
    let back : m - k ≡ t = omega arith in
    rw (le-leb k m (omega arith), back)

-- before the start stands zero
pub lag_none : (w : List ℕ) (t k : ℕ) → t < k → lag w t k ≡ 0
unfolding lag
lag_none w t k h = rw (lt-leb k t h)

lag_0 : (w : List ℕ) (t : ℕ) → lag w t 0 ≡ get_or w t 0
lag_0 w t = lag_back w t 0 t (omega arith)

lag_start : (w : List ℕ) (k : ℕ) → lag w 0 (suc k) ≡ 0
lag_start w k = lag_none w 0 (suc k) (omega arith)

lag_suc : (w : List ℕ) (t k : ℕ) → lag w (suc t) (suc k) ≡ lag w t k
unfolding lag
lag_suc w t k = simp (leb-suc-suc, suc-sub-suc)

pub lag_bit : (w : List ℕ) → Bits w → (t k : ℕ) → lag w t k < 2
unfolding lag
lag_bit w b t k = go (leb k t)
  where
    go : (e : Bool) → choose e (get_or w (t - k) 0) 0 < 2
    go true = b (t - k)
    go false = omega arith

-- the last seven inputs, the newest first
window : List ℕ → ℕ → List ℕ
window w t = lag w t 0 ∷ lag w t 1 ∷ lag w t 2 ∷ lag w t 3 ∷ lag w t 4 ∷ lag w t 5 ∷ lag w t 6 ∷ []

-- bits as a number, the first the highest
abbrev packed : ℕ → List ℕ → ℕ
packed weight [] = 0
packed weight (x ∷ xs) = weight * x + packed (weight / 2) xs

-- the register holds the last seven inputs
register_window : (w : List ℕ) → Bits w → (t : ℕ) → register w (suc t) ≡ packed 64 (window w t)
unfolding register window
register_window w b zero =
    simp (lag_0, lag_start w 0, lag_start w 1, lag_start w 2, lag_start w 3, lag_start w 4, lag_start w 5) (omega arith)
register_window w b (suc t) =
    rw (register_window w b t, lag_0 w (suc t), lag_suc w t 0, lag_suc w t 1, lag_suc w t 2, lag_suc w t 3, lag_suc w t 4, lag_suc w t 5)
    (omega (arith, lag_bit w b t 6))

-- the same, bit by bit
pub register_lags : (w : List ℕ) → Bits w → (t : ℕ)
    → register w (suc t) ≡ 64 * lag w t 0 + 32 * lag w t 1 + 16 * lag w t 2 + 8 * lag w t 3 + 4 * lag w t 4 + 2 * lag w t 5 + lag w t 6
unfolding window
register_lags w b t = omega (arith, register_window w b t)

pub register_low : (w : List ℕ) → Bits w → (t : ℕ) → register w t < 128
unfolding register
register_low w b zero = omega arith
register_low w b (suc t) = omega (arith, register_low w b t, b t)

-- the register knows the inputs that have come
pub register_same : (w v : List ℕ) (t : ℕ) → ((k : ℕ) → k < t → get_or w k 0 ≡ get_or v k 0) → register w t ≡ register v t
unfolding register
register_same w v zero same = refl
register_same w v (suc t) same =
    ap₂ entered (register_same w v t (λ k h. same k (omega arith))) (same t (omega arith))

-- a test at every list of n bits
abbrev everywhere : ℕ → (List ℕ → Bool) → Bool
everywhere zero p = p []
everywhere (suc n) p = both (everywhere n (λ xs. p (0 ∷ xs))) (everywhere n (λ xs. p (1 ∷ xs)))

abbrev AllBits : List ℕ → Type 0
AllBits [] = Unit {0}
AllBits (x ∷ xs) = (x < 2) × AllBits xs

everywhere_at : (xs : List ℕ) → AllBits xs → (p : List ℕ → Bool) → T (everywhere (length xs) p) → T (p xs)
everywhere_at [] b p h = h
everywhere_at (zero ∷ xs) b p h = everywhere_at xs b.1 (λ ys. p (0 ∷ ys)) (both_left (everywhere (length xs) (λ ys. p (0 ∷ ys))) (everywhere (length xs) (λ ys. p (1 ∷ ys))) h)
everywhere_at (suc zero ∷ xs) b p h = everywhere_at xs b.1 (λ ys. p (1 ∷ ys)) (both_right (everywhere (length xs) (λ ys. p (0 ∷ ys))) (everywhere (length xs) (λ ys. p (1 ∷ ys))) h)
everywhere_at (suc (suc x) ∷ xs) b p h = let z : suc (suc x) < 2 = b.0 in absurd (omega arith)

-- the sum of the bits at some lags
abbrev summed : List ℕ → List ℕ → ℕ
summed [] xs = 0
summed (k ∷ ks) xs = get_or xs k 0 + summed ks xs

-- a mask sees the bits at a polynomial's lags
abbrev sees : ℕ → List ℕ → List ℕ → Bool
sees mask lags xs = eqb (parity (packed 64 xs) mask) (summed lags xs % 2)

-- tried at all 128 registers
seen : (mask : ℕ) (lags : List ℕ) → T (everywhere 7 (sees mask lags)) → (w : List ℕ) → Bits w → (t : ℕ)
    → parity (register w (suc t)) mask ≡ summed lags (window w t) % 2
unfolding window
seen mask lags h w b t =
    let l = lag_bit w b t in
    rw (register_window w b t)
    (eqb→eq _ _ (everywhere_at (window w t) (l 0, (l 1, (l 2, (l 3, (l 4, (l 5, (l 6, tt))))))) (sees mask lags) h))

pub coded_x : (w : List ℕ) → Bits w → (t : ℕ) → coded w (2 * t) ≡ parity (register w (suc t)) mask_x
unfolding coded tapped lags_x ones ones_in window
coded_x w b t =
    let even : (2 * t) % 2 ≡ 0 = omega arith in
    let half : (2 * t) / 2 ≡ t = omega arith in
    rw (even, half) (sym (seen mask_x lags_x tt w b t))

pub coded_y : (w : List ℕ) → Bits w → (t : ℕ) → coded w (2 * t + 1) ≡ parity (register w (suc t)) mask_y
unfolding coded tapped lags_y ones ones_in window
coded_y w b t =
    let odd : (2 * t + 1) % 2 ≡ 1 = omega arith in
    let half : (2 * t + 1) / 2 ≡ t = omega arith in
    rw (odd, half) (sym (seen mask_y lags_y tt w b t))
