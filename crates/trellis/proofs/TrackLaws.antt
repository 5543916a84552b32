-- The way of given inputs, oldest first, through the states, and back from the oldest bits of a way to its inputs.
-- Assumes nothing.
use mathlib.Core.Path.{◌≡◌, refl, sym, ap, ap₂, ◌∙◌}
use mathlib.Core.List.{List, [], ◌∷◌, ◌++◌}
use Prim.Native.Nat.{ℕ, zero, suc, ◌-◌, ◌/◌, ◌%◌, ◌≤◌, ◌<◌}
use native.Mathlib.Omega.{arith}
use lib.ListN.{length, get_or, length-append, get_or-append}
use lib.Seq.{get_or_at}
use Rattle.laws.specs.Packing.{packed}
use Rattle.laws.specs.Sums.{total}
use Rattle.coder.specs.Encoder.{lag}
use Rattle.coder.specs.Register.{register}
use Rattle.coder.proofs.EncoderLaws.{Bits, lag_bit, register_lags, register_low, register_same}
use Rattle.trellis.specs.Passes.{via, before, best}
use Rattle.trellis.specs.Partial.{state, partial_cost}
use Rattle.trellis.proofs.PathLaws.{along, origin, best_least}

-- the oldest bit at step t on the way of the inputs w
abbrev pub own : List ℕ → ℕ → ℕ
own w t = register w (suc t) % 2

-- the oldest bits on the way of the inputs w, t steps long, the last step's first
unfoldable pub leaving : List ℕ → ℕ → List ℕ
leaving w zero = []
leaving w (suc t) = own w t ∷ leaving w t

-- the inputs, oldest first, of the way into state s with the oldest bits ds
unfoldable pub entering : ℕ → List ℕ → List ℕ
entering s [] = []
entering s (d ∷ ds) = entering (before s d) ds ++ (s / 32 ∷ [])

pub leaving_length : (w : List ℕ) (t : ℕ) → length (leaving w t) ≡ t
unfolding leaving
leaving_length w zero = refl
leaving_length w (suc t) = ap suc (leaving_length w t)

pub leaving_bits : (w : List ℕ) (t : ℕ) → Bits (leaving w t)
unfolding leaving
leaving_bits w zero i = omega arith
leaving_bits w (suc t) zero = omega arith
leaving_bits w (suc t) (suc i) = leaving_bits w t i

-- what leaves at a step has come six steps before
pub leaving_at : (w : List ℕ) → Bits w → (t i : ℕ) → i < t → get_or (leaving w t) i 0 ≡ lag w (t - 1 - i) 6
unfolding leaving
leaving_at w bits zero i h = absurd (omega arith)
leaving_at w bits (suc t) zero h =
    let e : suc t - 1 - 0 ≡ t = omega arith in
    rw e (omega (arith, register_lags w bits t, lag_bit w bits t 6))
leaving_at w bits (suc t) (suc i) h =
    let e : suc t - 1 - suc i ≡ t - 1 - i = omega arith in
    rw e (leaving_at w bits t i (omega arith))

pub state_low : (w : List ℕ) → Bits w → (t : ℕ) → state w t < 64
state_low w bits t = omega (arith, register_low w bits t)

-- a state is the last six inputs, the newest the highest
pub state_packed : (w : List ℕ) → Bits w → (t : ℕ) → state w (suc t) ≡ packed 6 (λ i. lag w t (5 - i))
unfolding packed
state_packed w bits t = omega (arith, register_lags w bits t, lag_bit w bits t 6)

-- with its own oldest bit the way into a state has its own register and comes from its own state
pub own_via : (w : List ℕ) (t : ℕ) → via (state w (suc t)) (own w t) ≡ register w (suc t)
own_via w t = omega arith

pub own_before : (w : List ℕ) → Bits w → (t : ℕ) → before (state w (suc t)) (own w t) ≡ state w t
unfolding register
own_before w bits t = omega (arith, register_low w bits t)

-- the way of the inputs costs what their steps cost
pub along_leaving : (b : ℕ → ℕ → ℕ) (P : ℕ) (w : List ℕ) → Bits w → (t : ℕ) → along b P (state w t) (leaving w t) ≡ partial_cost b w t
unfolding along leaving partial_cost total
along_leaving b P w bits zero = unfold register in refl
along_leaving b P w bits (suc t) = rw (leaving_length w t, own_before w bits t, own_via w t, along_leaving b P w bits t)

-- what inputs cost is no less than the best into their state
pub best_inputs : (b : ℕ → ℕ → ℕ) (P : ℕ) (w : List ℕ) → Bits w → (t : ℕ) → best b P t (state w t) ≤ partial_cost b w t
best_inputs b P w bits t =
    rw (leaving_length w t, along_leaving b P w bits t) at (best_least b P (state w t) (leaving w t) (leaving_bits w t))

-- the same inputs, the same way
pub leaving_same : (w v : List ℕ) (t : ℕ) → ((k : ℕ) → k < t → get_or w k 0 ≡ get_or v k 0) → leaving w t ≡ leaving v t
unfolding leaving
leaving_same w v zero same = refl
leaving_same w v (suc t) same =
    ap₂ ◌∷◌ (ap (λ r. r % 2) (register_same w v (suc t) same)) (leaving_same w v t (λ k h. same k (omega arith)))

pub entering_length : (s : ℕ) (ds : List ℕ) → length (entering s ds) ≡ length ds
unfolding entering
entering_length s [] = refl
entering_length s (d ∷ ds) = simp length-append (omega (arith, entering_length (before s d) ds))

bits_snoc : (e : List ℕ) (x : ℕ) → Bits e → x < 2 → Bits (e ++ (x ∷ []))
bits_snoc [] x bits h zero = h
bits_snoc [] x bits h (suc t) = omega arith
bits_snoc (y ∷ e) x bits h zero = bits 0
bits_snoc (y ∷ e) x bits h (suc t) = bits_snoc e x (λ i. bits (suc i)) h t

pub entering_bits : (s : ℕ) (ds : List ℕ) → s < 64 → Bits (entering s ds)
unfolding entering
entering_bits s [] h = λ t. omega arith
entering_bits s (d ∷ ds) h = bits_snoc (entering (before s d) ds) (s / 32) (entering_bits (before s d) ds (omega arith)) (omega arith)

-- what came before the last input
entering_before : (s d : ℕ) (ds : List ℕ) (k : ℕ) → k < length ds → get_or (entering s (d ∷ ds)) k 0 ≡ get_or (entering (before s d) ds) k 0
unfolding entering
entering_before s d ds k h = get_or-append (entering (before s d) ds) _ 0 k (omega (arith, entering_length (before s d) ds))

-- the last input leads into state s
entering_register : (s d : ℕ) (ds : List ℕ) → s < 64 → d < 2 → state (entering (before s d) ds) (length ds) ≡ before s d
    → register (entering s (d ∷ ds)) (suc (length ds)) ≡ via s d
unfolding register entering
entering_register s d ds h bit there =
    let e = entering (before s d) ds in
    rw (register_same (e ++ (s / 32 ∷ [])) e (length ds) (entering_before s d ds), get_or_at e (s / 32) [] 0 (length ds) (entering_length (before s d) ds))
    (omega (arith, there))

pub entering_state : (s : ℕ) (ds : List ℕ) → s < 64 → Bits ds → origin s ds ≡ 0 → state (entering s ds) (length ds) ≡ s
unfolding origin
entering_state s [] h bits home = unfold register in sym home
entering_state s (d ∷ ds) h bits home =
    omega (arith, bits 0, entering_register s d ds h (bits 0) (entering_state (before s d) ds (omega arith) (λ t. bits (suc t)) home))

-- there and back
pub entering_leaving : (s : ℕ) (ds : List ℕ) → s < 64 → Bits ds → origin s ds ≡ 0 → leaving (entering s ds) (length ds) ≡ ds
unfolding leaving origin
entering_leaving s [] h bits home = refl
entering_leaving s (d ∷ ds) h bits home =
    let low : before s d < 64 = omega arith in
    let earlier = entering_state (before s d) ds low (λ t. bits (suc t)) home in
    ap₂ ◌∷◌ (omega (arith, bits 0, entering_register s d ds h (bits 0) earlier))
    (leaving_same _ _ (length ds) (entering_before s d ds) ∙ entering_leaving (before s d) ds low (λ t. bits (suc t)) home)
