-- `places::spread::spread_train` spreads a train's soft bytes PDU by PDU.
-- Assumes nothing.
use lib.IntN.{pos}
use lib.ListN.{get_or}
use Rattle.laws.specs.Scatter.{Placed}
use Rattle.laws.specs.Signed.{counted}
use Rattle.modes.specs.Passed.{pdus_in}
use Rattle.places.specs.Selection.{origin}
use Rattle.places.specs.Trains.{listed}
use Rattle.places.proofs.ListedLaws.{Begins}
use Rattle.places.proofs.spread.spread_train.Given as goal

abbrev pub invariant-loop-pdu : goal.invariant-loop-pdu
invariant-loop-pdu l =
    Begins l.train l.pdu-index l.first l.at
    × Placed (origin (listed (pdus_in l.train) l.train.a)) (λ q. counted 128 (get_or l.soft q (pos 0))) l.at l.initial.heard l.heard
