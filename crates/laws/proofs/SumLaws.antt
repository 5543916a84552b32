-- Laws of sums over the numbers below a bound: equal terms, no terms, one term, terms in pairs, sums of sums, a count.
-- Assumes nothing.
use mathlib.Core.Path.{◌≡◌, refl, sym, ap, ap₂, ◌∙◌}
use mathlib.Core.Bool.{Bool, true, false}
use mathlib.Core.Logic.{◌≢◌}
use Prim.Native.Nat.{ℕ, zero, suc, ◌+◌, ◌*◌, ◌≤◌, ◌<◌}
use native.Mathlib.Nat.{not-suc-le-zero}
use native.Mathlib.Numerals.{add-one}
use native.Mathlib.Omega.{arith}
use lib.Dec.{ltb, eqb}
use borrow.Author.Tests.{ltb-true, ltb-false, lt-ltb, eqb-true, eqb-false}
use Rattle.laws.specs.Lists.{choose}
use Rattle.laws.specs.Sums.{total}

-- sums of equal terms are equal
pub total_ext : (n : ℕ) (f g : ℕ → ℕ) → ((k : ℕ) → k < n → f k ≡ g k) → total n f ≡ total n g
unfolding total
total_ext zero f g same = refl
total_ext (suc n) f g same = ap₂ ◌+◌ (total_ext n f g (λ k h. same k (omega arith))) (same n (omega arith))

-- a sum of zeros is zero
pub total_none : (n : ℕ) (f : ℕ → ℕ) → ((k : ℕ) → k < n → f k ≡ 0) → total n f ≡ 0
unfolding total
total_none zero f none = refl
total_none (suc n) f none = ap₂ ◌+◌ (total_none n f (λ k h. none k (omega arith))) (none n (omega arith))

-- a sum with one term that is not zero
pub total_only : (n : ℕ) (f : ℕ → ℕ) (j : ℕ) → j < n → ((k : ℕ) → k < n → k ≢ j → f k ≡ 0) → total n f ≡ f j
unfolding total
total_only zero f j h others = absurd (not-suc-le-zero h)
total_only (suc n) f j h others = go (total_only n f j) (eqb n j) refl
  where
    go : (j < n → ((k : ℕ) → k < n → k ≢ j → f k ≡ 0) → total n f ≡ f j) → (t : Bool) → eqb n j ≡ t → total n f + f n ≡ f j
    go lower true e =
        let last : n ≡ j = eqb-true n j e in
        let rest : total n f ≡ 0 = total_none n f (λ k hk. others k (omega arith) (omega arith)) in
        rw (rest, last) (omega arith)
    go lower false e =
        let apart : n ≢ j = eqb-false n j e in
        let first : total n f ≡ f j = lower (omega arith) (λ k hk. others k (omega arith)) in
        rw (first, others n (omega arith) apart) (omega arith)

-- a sum over pairs
pub total_pairs : (n : ℕ) (f : ℕ → ℕ) → total (2 * n) f ≡ total n (λ k. f (2 * k) + f (2 * k + 1))
unfolding total
total_pairs zero f = refl
total_pairs (suc n) f =
    let e : 2 * suc n ≡ suc (suc (2 * n)) = omega arith in
    rw (e, add-one (2 * n)) (omega (arith, total_pairs n f))

pub total_add : (n : ℕ) (f g : ℕ → ℕ) → total n (λ k. f k + g k) ≡ total n f + total n g
unfolding total
total_add zero f g = refl
total_add (suc n) f g = rw (total_add n f g) (omega arith)

-- two sums whose terms add up to those of two others, the first of these twice
pub total_both : (n : ℕ) (f g p q : ℕ → ℕ) → ((k : ℕ) → k < n → f k + g k ≡ 2 * p k + q k) → total n f + total n g ≡ 2 * total n p + total n q
unfolding total
total_both zero f g p q each = refl
total_both (suc n) f g p q each = omega (arith, total_both n f g p q (λ k h. each k (omega arith)), each n (omega arith))

-- a double sum, the other way round
pub total_swap : (n m : ℕ) (f : ℕ → ℕ → ℕ) → total n (λ i. total m (f i)) ≡ total m (λ j. total n (λ i. f i j))
unfolding total
total_swap zero m f = sym (total_none m (λ j. 0) (λ k h. refl))
total_swap (suc n) m f = ap (λ s. s + total m (f n)) (total_swap n m f) ∙ sym (total_add m (λ j. total n (λ i. f i j)) (f n))

-- of the numbers below n, as many are below k as k says
count_all : (n k : ℕ) → n ≤ k → total n (λ s. choose (ltb s k) 1 0) ≡ n
unfolding total
count_all zero k h = refl
count_all (suc n) k h = rw (count_all n k (omega arith), lt-ltb n k (omega arith)) (omega arith)

pub count_below : (n k : ℕ) → k ≤ n → total n (λ s. choose (ltb s k) 1 0) ≡ k
unfolding total
count_below zero k h = omega arith
count_below (suc n) k h = go (count_below n k) (ltb n k) refl
  where
    go : (k ≤ n → total n (λ s. choose (ltb s k) 1 0) ≡ k) → (x : Bool) → ltb n k ≡ x → total n (λ s. choose (ltb s k) 1 0) + choose x 1 0 ≡ k
    go fewer true e = rw (count_all n k (omega (arith, ltb-true n k e))) (omega (arith, ltb-true n k e))
    go fewer false e = rw (fewer (ltb-false n k e)) (omega arith)
