-- Laws of a held reading: it lies in -2,048 to 2,048, and what it is counted from there.
-- Assumes nothing.
use mathlib.Core.Path.{◌≡◌, refl, ap, ◌∙◌}
use mathlib.Core.Bool.{Bool, true, false}
use Prim.Native.Nat.{ℕ, ◌<◌, ◌≤◌, min}
use native.Mathlib.Omega.{arith}
use lib.Dec.{ltb}
use lib.IntN.{ℤ, pos, negsuc, neg_ℤ, nat_abs, ◌-ℤ◌}
use lib.Signed.{mag}
use mir.Syntax.{w16}
use mir.Val.{to_z, of_z}
use Rattle.std.specs.Int.{int_min, int_max}
use borrow.Author.Tests.{ltb-true, ltb-false}
use Rattle.laws.specs.Signed.{above, counted}
use Rattle.laws.proofs.SignedLaws.{kept, above_neg, counted_is, counted_neg, counted_back}
use Rattle.points.specs.Levels.{minus}
use Rattle.soft.specs.Soft.{held}

held_pos : (n : ℕ) → held (pos n) ≡ pos (min n 2048)
unfolding held
held_pos n = go (ltb 2048 n) refl
  where
    go : (t : Bool) → ltb 2048 n ≡ t → held (pos n) ≡ pos (min n 2048)
    go true e = rw e (ap pos (omega (arith, ltb-true 2048 n e)))
    go false e = rw e (ap pos (omega (arith, ltb-false 2048 n e)))

held_neg : (n : ℕ) → held (negsuc n) ≡ negsuc (min n 2047)
unfolding held
held_neg n = go (ltb 2047 n) refl
  where
    go : (t : Bool) → ltb 2047 n ≡ t → held (negsuc n) ≡ negsuc (min n 2047)
    go true e = rw e (ap negsuc (omega (arith, ltb-true 2047 n e)))
    go false e = rw e (ap negsuc (omega (arith, ltb-false 2047 n e)))

-- the code's clamp
clamped : (r : ℤ) → int_max (minus 2048) (int_min r (pos 2048)) ≡ held r
unfolding held
clamped (pos n) = go (ltb 2048 n) refl
  where
    go : (t : Bool) → ltb 2048 n ≡ t → int_max (minus 2048) (int_min (pos n) (pos 2048)) ≡ held (pos n)
    go true e = rw e
    go false e = rw e
clamped (negsuc n) = go (ltb 2047 n) refl
  where
    go : (t : Bool) → ltb 2047 n ≡ t → int_max (minus 2048) (int_min (negsuc n) (pos 2048)) ≡ held (negsuc n)
    go true e = rw e
    go false e = rw e

held_above : (r : ℤ) → above (neg_ℤ (held r)) ≤ 2048
unfolding above
held_above (pos n) = rw (held_pos n, above_neg) (omega arith)
held_above (negsuc n) = rw (held_neg n) (omega arith)

held_mag : (r : ℤ) → mag (held r) < 32768
held_mag (pos n) = rw (held_pos n) (omega arith)
held_mag (negsuc n) = rw (held_neg n) (omega arith)

-- r as the code passes it on, z its clamp, and x how far that is above -2,048
pub held_by : (r z : ℤ) (x : ℕ) → mag r < 32768 → z ≡ int_max (minus 2048) (int_min (to_z w16 (of_z w16 r)) (pos 2048))
    → x ≡ nat_abs (to_z w16 (of_z w16 z) -ℤ minus 2048)
    → x ≡ counted 2048 (held r)
held_by r z x fits ez ex =
    let same : z ≡ held r = ez ∙ rw (kept w16 r fits refl) (clamped r) in
    let there : to_z w16 (of_z w16 (held r)) ≡ held r = kept w16 (held r) (held_mag r) refl in
    ex ∙ rw (same, there) (ap nat_abs (counted_is 2048 (held r) (held_above r)))

pub held_within : (r : ℤ) → counted 2048 (held r) ≤ 4096
unfolding counted above
held_within (pos n) = rw (held_pos n) (omega arith)
held_within (negsuc n) = rw (held_neg n, counted_neg 2048 (min n 2047)) (omega arith)

-- and back
pub held_back : (r : ℤ) → pos (counted 2048 (held r)) -ℤ pos 2048 ≡ held r
held_back r = counted_back 2048 (held r) (held_above r)
