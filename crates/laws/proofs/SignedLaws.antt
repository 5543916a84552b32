-- Laws of signed numbers: the difference of two numbers, a number counted from below zero, and what the code keeps in a signed width.
-- Assumes nothing.
use mathlib.Core.Path.{◌≡◌, refl, ap, ◌∙◌}
use mathlib.Core.Bool.{Bool, true, false}
use Prim.Native.Nat.{ℕ, zero, suc, ◌+◌, ◌-◌, ◌*◌, ◌^◌, ◌<◌, ◌≤◌}
use native.Mathlib.Omega.{arith}
use lib.Dec.{ltb}
use lib.IntN.{ℤ, pos, negsuc, neg_ℤ, nat_abs, ◌+ℤ◌, ◌-ℤ◌, +ℤ-neg_ℤ_cancel}
use lib.Signed.{mag}
use mir.Syntax.{Width}
use mir.Val.{hbits, to_z, of_z}
use mir.ValLaws.{to_z-of_z}
use borrow.Author.Tests.{lt-ltb, le-ltb, ltb-true, ltb-false}
use Rattle.laws.specs.Signed.{above, counted}

-- a difference that is not below zero, and one that is
pub less_pos : (a b : ℕ) → b ≤ a → pos a -ℤ pos b ≡ pos (a - b)
less_pos a zero h = ap pos (omega arith)
less_pos a (suc b) h = rw (le-ltb a (suc b) h)

pub less_neg : (a b : ℕ) → a < b → pos a -ℤ pos b ≡ negsuc (b - suc a)
less_neg a zero h = absurd (omega arith)
less_neg a (suc b) h = rw (lt-ltb a (suc b) h)

-- its size
pub less_size : (a b : ℕ) → nat_abs (pos a -ℤ pos b) ≡ (a - b) + (b - a)
less_size a b = go (ltb a b) refl
  where
    go : (t : Bool) → ltb a b ≡ t → nat_abs (pos a -ℤ pos b) ≡ (a - b) + (b - a)
    go true e = let h : a < b = ltb-true a b e in rw (less_neg a b h) (omega arith)
    go false e = let h : b ≤ a = ltb-false a b e in rw (less_pos a b h) (omega arith)

-- the same difference from k
pub less_from : (k a b : ℕ) → b ≤ k → pos (k + a - b) -ℤ pos k ≡ pos a -ℤ pos b
less_from k a b hk = go (ltb a b) refl
  where
    go : (t : Bool) → ltb a b ≡ t → pos (k + a - b) -ℤ pos k ≡ pos a -ℤ pos b
    go true e =
        let h : a < b = ltb-true a b e in
        rw (less_neg a b h, less_neg (k + a - b) k (omega arith)) (ap negsuc (omega arith))
    go false e =
        let h : b ≤ a = ltb-false a b e in
        rw (less_pos a b h, less_pos (k + a - b) k (omega arith)) (ap pos (omega arith))

-- a number below zero, by its size
pub neg_is : (n m : ℕ) → n ≡ suc m → neg_ℤ (pos n) ≡ negsuc m
neg_is n m e = rw e

pub above_neg : (n : ℕ) → above (neg_ℤ (pos n)) ≡ 0
unfolding above
above_neg zero = refl
above_neg (suc n) = refl

pub counted_neg : (k n : ℕ) → counted k (negsuc n) ≡ k - suc n
unfolding counted above
counted_neg k n = go (ltb k (suc n)) refl
  where
    go : (t : Bool) → ltb k (suc n) ≡ t → counted k (negsuc n) ≡ k - suc n
    go true e = let h : k < suc n = ltb-true k (suc n) e in rw e (omega arith)
    go false e = rw e

-- a number that is not below -k, counted from there
pub counted_is : (k : ℕ) (z : ℤ) → above (neg_ℤ z) ≤ k → z +ℤ pos k ≡ pos (counted k z)
unfolding counted above
counted_is k (pos n) h = refl
counted_is k (negsuc n) h = rw (le-ltb k (suc n) h)

-- and back
pub counted_back : (k : ℕ) (z : ℤ) → above (neg_ℤ z) ≤ k → pos (counted k z) -ℤ pos k ≡ z
counted_back k z h = rw (← counted_is k z h) (+ℤ-neg_ℤ_cancel z (pos k))

pub counted_within : (k : ℕ) (z : ℤ) → mag z < k → counted k z < 2 * k
unfolding counted above
counted_within k (pos n) h = omega arith
counted_within k (negsuc n) h = rw counted_neg (omega arith)

-- what a width holds is not below the half of its numbers
pub above_half : {k : ℕ} (z : ℤ) → mag z < k → above (neg_ℤ z) ≤ k
unfolding above
above_half (pos n) h = rw above_neg (omega arith)
above_half (negsuc n) h = h

-- a signed number that its width holds is the same when the code passes it on
pub kept : (w : Width) (z : ℤ) {l : ℤ} → mag z < 2 ^ hbits w → z ≡ l → to_z w (of_z w z) ≡ l
kept w z h e = to_z-of_z w z (record { sfits = h }) ∙ e
