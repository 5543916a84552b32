-- `modes::train::Train::counts` sums the sizes of the PDUs.
-- Assumes nothing.
use Rattle.modes.proofs.DescriptionLaws.{Counted}
use Rattle.modes.proofs.train.Train.counts.Given as goal

abbrev pub invariant-loop-pdu : goal.invariant-loop-pdu
invariant-loop-pdu l = Counted l.self l.pdu-index l.counts.n l.counts.symbols l.counts.sent
