-- `modes::description::PduList::lengths_tested` is the ladder of refusals 3, 4 and 5 PDU by PDU.
-- Assumes nothing.
use Rattle.modes.proofs.TestLaws.{LengthsTo}
use Rattle.modes.proofs.description.PduList.lengths_tested.Given as goal

abbrev pub invariant-loop-k : goal.invariant-loop-k
invariant-loop-k l = LengthsTo l.self.count l.self.modes l.self.lengths l.k
