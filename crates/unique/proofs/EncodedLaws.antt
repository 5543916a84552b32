-- What equal coded bits tell of the inputs. Two rows of bits that are alike below d are alike at d too where X or Y of step d are equal,
-- and where X and Y of step d + 1 are, since X has no lag 1 and Y has.
-- Assumes nothing.
use mathlib.Core.Path.{◌≡◌, refl, sym, ap₂, ◌∙◌}
use mathlib.Core.Bool.{Bool, true, false}
use mathlib.Core.List.{List, [], ◌∷◌}
use Prim.Native.Nat.{ℕ, suc, ◌+◌, ◌-◌, ◌*◌, ◌/◌, ◌%◌, ◌≤◌, ◌<◌}
use native.Mathlib.Nat.{sub-zero, suc-sub-suc}
use native.Mathlib.Omega.{arith}
use lib.Dec.{T, leb, leb-zero, leb-suc-suc, leb→le}
use lib.ListN.{get_or, drop}
use borrow.Author.Tests.{leb-true}
use Rattle.laws.specs.Lists.{choose}
use Rattle.laws.proofs.Tables.{both, both_left, both_right}
use Rattle.coder.specs.Encoder.{lag, lags_x, lags_y, tapped, coded}
use Rattle.coder.proofs.EncoderLaws.{Bits}

-- alike below d
abbrev pub Alike : List ℕ → List ℕ → ℕ → Type 0
Alike w v d = (t : ℕ) → t < d → get_or w t 0 ≡ get_or v t 0

coded_x : (w : List ℕ) (t : ℕ) → coded w (2 * t) ≡ tapped lags_x w t % 2
unfolding coded
coded_x w t =
    let even : 2 * t % 2 ≡ 0 = omega arith in
    let half : 2 * t / 2 ≡ t = omega arith in
    rw (even, half)

coded_y : (w : List ℕ) (t : ℕ) → coded w (2 * t + 1) ≡ tapped lags_y w t % 2
unfolding coded
coded_y w t =
    let odd : (2 * t + 1) % 2 ≡ 1 = omega arith in
    let half : (2 * t + 1) / 2 ≡ t = omega arith in
    rw (odd, half)

lag_0 : (w : List ℕ) (t : ℕ) → lag w t 0 ≡ get_or w t 0
unfolding lag
lag_0 w t = rw (leb-zero t, sub-zero t)

lag_1 : (w : List ℕ) (t : ℕ) → lag w (suc t) 1 ≡ get_or w t 0
unfolding lag
lag_1 w t = rw (leb-suc-suc 0 t, leb-zero t, suc-sub-suc t 0, sub-zero t)

-- lags from b on
from : ℕ → List ℕ → Bool
from b [] = true
from b (k ∷ ks) = both (leb b k) (from b ks)

module _ (w v : List ℕ) (wbit : Bits w) (vbit : Bits v) (d : ℕ) (alike : Alike w v d) where
  -- a lag that reaches below d
  same_lag : (t k : ℕ) → t < d + k → lag w t k ≡ lag v t k
  unfolding lag
  same_lag t k h = go (leb k t) refl
    where
      go : (x : Bool) → leb k t ≡ x → choose x (get_or w (t - k) 0) 0 ≡ choose x (get_or v (t - k) 0) 0
      go true e = alike (t - k) (omega (arith, leb-true k t e))
      go false e = refl

  same_taps : (b : ℕ) (ks : List ℕ) (t : ℕ) → t < d + b → T (from b ks) → tapped ks w t ≡ tapped ks v t
  unfolding tapped from
  same_taps b [] t h ok = refl
  same_taps b (k ∷ ks) t h ok =
      let later : b ≤ k = leb→le b k (both_left (leb b k) (from b ks) ok) in
      ap₂ ◌+◌ (same_lag t k (omega arith)) (same_taps b ks t h (both_right (leb b k) (from b ks) ok))

  pub x_tells : (t : ℕ) → t < d + 2 → coded w (2 * t) ≡ coded v (2 * t) → get_or w t 0 ≡ get_or v t 0
  unfolding tapped lags_x from
  x_tells t h e =
      let same : tapped lags_x w t % 2 ≡ tapped lags_x v t % 2 = sym (coded_x w t) ∙ e ∙ coded_x v t in
      omega (arith, lag_0 w t, lag_0 v t, wbit t, vbit t, same_taps 2 (drop 1 lags_x) t h tt)

  pub y_tells : coded w (2 * d + 1) ≡ coded v (2 * d + 1) → get_or w d 0 ≡ get_or v d 0
  unfolding tapped lags_y from
  y_tells e =
      let same : tapped lags_y w d % 2 ≡ tapped lags_y v d % 2 = sym (coded_y w d) ∙ e ∙ coded_y v d in
      omega (arith, lag_0 w d, lag_0 v d, wbit d, vbit d, same_taps 1 (drop 1 lags_y) d (omega arith) tt)

  pub next_tells : coded w (2 * d + 2) ≡ coded v (2 * d + 2) → coded w (2 * d + 3) ≡ coded v (2 * d + 3) → get_or w d 0 ≡ get_or v d 0
  unfolding tapped lags_y from
  next_tells x y =
      let t : ℕ = suc d in
      let even : 2 * d + 2 ≡ 2 * t = omega arith in
      let odd : 2 * d + 3 ≡ 2 * t + 1 = omega arith in
      let here : lag w t 0 ≡ lag v t 0 = lag_0 w t ∙ x_tells t (omega arith) (rw even at x) ∙ sym (lag_0 v t) in
      let same : tapped lags_y w t % 2 ≡ tapped lags_y v t % 2 = sym (coded_y w t) ∙ rw odd at y ∙ coded_y v t in
      omega (arith, lag_1 w d, lag_1 v d, wbit d, vbit d, same_taps 2 (drop 2 lags_y) t (omega arith) tt)
