-- `modem::readings::soften_train` makes soft bytes PDU by PDU.
-- Assumes nothing.
use mathlib.Core.Path.{◌≡◌}
use Rattle.laws.specs.Lists.{filled}
use Rattle.modes.specs.Passed.{pdus_in}
use Rattle.modem.specs.Soften.{list_soft}
use Rattle.modem.proofs.ReadLaws.{Reached}
use Rattle.modem.proofs.readings.soften_train.Given as goal

abbrev pub invariant-loop-pdu : goal.invariant-loop-pdu
invariant-loop-pdu l = Reached l.train l.pdu-index l.bits l.carriers × (l.soft ≡ filled l.bits (list_soft (pdus_in l.train) l.i l.q) l.initial.soft)
