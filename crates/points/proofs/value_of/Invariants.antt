-- `points::value_of` meets its contract. The loop's invariant: the value is that of the bits passed.
-- Assumes nothing.
use mathlib.Core.Path.{◌≡◌}
use Rattle.points.specs.Levels.{value_of}
use Rattle.points.proofs.value_of.Given as goal

abbrev pub invariant-loop-bit : goal.invariant-loop-bit
invariant-loop-bit l = l.value ≡ value_of l.bits 0 l.bit-index
