-- `search::mark` is the second pass, which ends where the other way into the train's state is not strictly above (MarkLaws).
-- Assumes nothing.
use Rattle.std.proofs.Common.{take}
use Rattle.search.proofs.MarkLaws.{Marking}
use Rattle.search.proofs.mark.Given as goal

abbrev pub invariant-loop-t : goal.invariant-loop-t
invariant-loop-t l = Marking l.n l.heard (take l.n l.train) l.costs l.register.bits l.t
