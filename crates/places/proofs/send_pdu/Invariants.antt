-- `places::send_pdu` sends a PDU symbol by symbol.
-- Assumes nothing.
use Rattle.modes.specs.Modes.{bits_of}
use Rattle.places.proofs.SendLaws.{Sent}
use Rattle.places.proofs.send_pdu.Given as goal

abbrev pub invariant-loop-symbol : goal.invariant-loop-symbol
invariant-loop-symbol l = Sent (bits_of l.fn.pdu.mode.constellation) l.rate l.a l.first l.coded l.initial.sent l.sent l.symbol
