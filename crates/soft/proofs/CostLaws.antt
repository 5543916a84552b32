-- Laws of the costs of a bit: the rounded cost, times 64, is near the exact one.
-- Assumes nothing.
use mathlib.Core.Path.{◌≡◌, refl}
use Prim.Native.Nat.{ℕ, zero, suc, ◌+◌, ◌*◌, ◌/◌, ◌<◌, ◌≤◌}
use native.Mathlib.Nat.{mul-zero}
use native.Mathlib.Omega.{arith}
use lib.Dec.{eqb}
use lib.IntN.{ℤ, pos, negsuc, neg_ℤ, nat_abs, ◌-ℤ◌, ◌*ℤ◌, neg_ℤ-neg_ℤ}
use Rattle.laws.specs.Lists.{choose}
use Rattle.laws.specs.Signed.{above}
use Rattle.laws.proofs.SignedLaws.{less_size, above_neg}
use Rattle.soft.specs.Soft.{rounded, bit_cost}

times_neg : (a n : ℕ) → pos a *ℤ neg_ℤ (pos n) ≡ neg_ℤ (pos (a * n))
times_neg a zero = rw mul-zero
times_neg a (suc n) = refl

-- 64 times the rounded number is within 32 of the number
pub within_32 : (z : ℤ) → nat_abs (z -ℤ (pos 64 *ℤ rounded z)) ≤ 32
unfolding rounded
within_32 (pos n) = rw (less_size n (64 * ((n + 32) / 64))) (omega arith)
within_32 (negsuc n) =
    rw (times_neg 64 ((suc n + 32) / 64), neg_ℤ-neg_ℤ, less_size (64 * ((suc n + 32) / 64)) (suc n)) (omega arith)

-- the costs of the two values of a bit: their difference, exact and rounded
near_costs : (z : ℤ) →
    (bit_cost z 0 + 64 * bit_cost (rounded z) 1 ≤ bit_cost z 1 + 64 * bit_cost (rounded z) 0 + 32)
    × (bit_cost z 1 + 64 * bit_cost (rounded z) 0 ≤ bit_cost z 0 + 64 * bit_cost (rounded z) 1 + 32)
unfolding rounded bit_cost above
near_costs (pos n) = rw (above_neg n, above_neg ((n + 32) / 64)) (omega arith, omega arith)
near_costs (negsuc n) = rw (neg_ℤ-neg_ℤ, above_neg ((suc n + 32) / 64)) (omega arith, omega arith)

pub cost_near : (z : ℤ) (x y : ℕ) → x < 2 → y < 2
    → bit_cost z x + 64 * bit_cost (rounded z) y ≤ bit_cost z y + 64 * bit_cost (rounded z) x + choose (eqb x y) 0 32
cost_near z zero zero hx hy = omega arith
cost_near z zero (suc zero) hx hy = (near_costs z).0
cost_near z (suc zero) zero hx hy = (near_costs z).1
cost_near z (suc zero) (suc zero) hx hy = omega arith
cost_near z zero (suc (suc y)) hx hy = absurd (omega arith)
cost_near z (suc zero) (suc (suc y)) hx hy = absurd (omega arith)
cost_near z (suc (suc x)) y hx hy = absurd (omega arith)
