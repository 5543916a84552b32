-- `places::send_train` sends a train PDU by PDU.
-- Assumes nothing.
use mathlib.Core.Path.{◌≡◌}
use Rattle.laws.specs.Lists.{filled}
use Rattle.modes.specs.Passed.{pdus_in}
use Rattle.places.specs.Sending.{train_bit}
use Rattle.places.proofs.ListedLaws.{Begins}
use Rattle.places.proofs.send_train.Given as goal

abbrev pub invariant-loop-pdu : goal.invariant-loop-pdu
invariant-loop-pdu l =
    Begins l.train l.pdu-index l.first l.at × (l.sent ≡ filled l.at (train_bit (pdus_in l.train) l.train.a l.coded) l.initial.sent)
