-- `places::spread::spread_pdu` spreads a PDU's soft bytes symbol by symbol.
-- Assumes nothing.
use Rattle.modes.specs.Modes.{bits_of}
use Rattle.places.proofs.SpreadLaws.{Spreading}
use Rattle.places.proofs.spread.spread_pdu.Given as goal

abbrev pub invariant-loop-symbol : goal.invariant-loop-symbol
invariant-loop-symbol l = Spreading (bits_of l.fn.pdu.mode.constellation) l.rate l.a l.first l.soft l.initial.heard l.heard l.symbol
