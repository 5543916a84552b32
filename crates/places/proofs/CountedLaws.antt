-- A soft byte counted from -128: its distance from there.
-- Assumes nothing.
use mathlib.Core.Path.{◌≡◌, refl, ap}
use Prim.Native.Nat.{◌^◌, ◌<◌}
use lib.IntN.{ℤ, negsuc, nat_abs, ◌-ℤ◌}
use lib.Signed.{mag}
use mir.Syntax.{w8}
use mir.Val.{to_z, of_z}
use Rattle.laws.specs.Signed.{counted}
use Rattle.laws.proofs.SignedLaws.{counted_is, above_half, kept}

pub counted_by : (z : ℤ) → mag z < 2 ^ 7 → nat_abs (to_z w8 (of_z w8 z) -ℤ negsuc 127) ≡ counted 128 z
counted_by z soft = rw (kept w8 z soft refl) (ap nat_abs (counted_is 128 z (above_half z soft)))
