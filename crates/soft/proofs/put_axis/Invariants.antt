-- `soft::put_axis` meets its contract. The loop's invariant: the soft bytes of the bits passed are stored, and the reading is folded as often.
-- Assumes nothing.
use mathlib.Core.Path.{◌≡◌}
use Rattle.soft.specs.Closed.{folded_to, soft_from}
use Rattle.soft.specs.Stored.{stored}
use Rattle.soft.proofs.put_axis.Given as goal

abbrev pub invariant-loop-j : goal.invariant-loop-j
invariant-loop-j l = record {
  folds : l.left.p ≡ folded_to l.w l.j l.fn.reading.p;
  so_far : l.soft ≡ stored l.at l.j (soft_from l.w l.fn.reading.p) l.initial.soft;
}
