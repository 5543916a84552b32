-- `points::value_of` meets its contract. The loop's invariant: the value is that of the bits passed.
-- Assumes nothing.
use mathlib.Core.Path.{refl}
use native.Mathlib.Nat.{zero-add}
use native.Mathlib.Omega.{arith}
use Rattle.laws.specs.Packing.{written}
use Rattle.points.proofs.BitLaws.{value_small, value_next}
use Rattle.points.proofs.value_of.Goals as goal

pub loop-bit-init : goal.loop-bit-init
unfolding written
loop-bit-init c = refl

pub overflow_mul-value : goal.overflow_mul-value
overflow_mul-value c =
    omega (arith, value_small c.args.bits.now (λ i. (c.type_inv.bits i).fits) 0 c.loop-bit.bit-index (omega arith))

pub overflow_add-value : goal.overflow_add-value
overflow_add-value c =
    let small = value_small c.args.bits.now (λ i. (c.type_inv.bits i).fits) 0 c.loop-bit.bit-index (omega arith) in
    omega (arith, rw (zero-add c.loop-bit.bit-index) at small)

pub loop-bit-preserved : goal.loop-bit-preserved
loop-bit-preserved c = omega (arith, rw (zero-add c.loop-bit.bit-index) at (value_next c.args.bits.now 0 c.loop-bit.bit-index))
