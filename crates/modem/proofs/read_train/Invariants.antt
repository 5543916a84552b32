-- `modem::read_train` takes ideal readings PDU by PDU.
-- Assumes nothing.
use mathlib.Core.Path.{◌≡◌}
use Rattle.laws.specs.Lists.{filled}
use Rattle.modes.specs.Passed.{pdus_in}
use Rattle.modem.specs.Ideal.{list_i, list_q}
use Rattle.modem.proofs.ReadLaws.{Reached}
use Rattle.modem.proofs.read_train.Given as goal

abbrev pub invariant-loop-pdu : goal.invariant-loop-pdu
invariant-loop-pdu l = Reached l.train l.pdu-index l.bits l.carriers × (l.i ≡ filled l.carriers (list_i (pdus_in l.train) l.sent) l.initial.i) × (l.q ≡ filled l.carriers (list_q (pdus_in l.train) l.sent) l.initial.q)
