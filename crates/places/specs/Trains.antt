-- Whole trains as selections of their coded bits, by the numbers of their modes.
--   pdu     P2 and the interleaver of one mode
--   pdu_by  the same by the bits per carrier and the rate
--   train   document 01's train: P1 from input a on, then P2 and the interleaver of its mode
--   pdus    a list of PDUs after P1: each PDU's 2 N bits by its own mode, P2 begun anew
--   listed  a train of a list of PDUs: P1 from input a on, over all of them
-- Assumes nothing.
use Rattle.std.specs.Prelude.{ℕ, ◌*◌, List, [], ◌∷◌}
use Rattle.modes.specs.declared.Rate.{Rate}
use Rattle.modes.specs.Modes.{rate_of, bits, sent}
use Rattle.modes.specs.Pdus.{Pdu, pdu_sent}
use Rattle.places.specs.Selection.{Selection, all, after, beside}
use Rattle.places.specs.Puncture.{p1, p2}
use Rattle.places.specs.Interleaver.{interleaver}

-- P2 and the interleaver of one mode
unfoldable pub pdu : ℕ → Selection
pdu mode = after (p2 (rate_of mode)) (interleaver (sent mode) (bits mode))

-- the same by the bits per carrier and the rate
unfoldable pub pdu_by : ℕ → Rate → Selection
pdu_by b rate = after (p2 rate) (interleaver (48 * b) b)

-- document 01's train
unfoldable pub train : ℕ → ℕ → Selection
train mode a = after (p1 a) (pdu mode)

-- of P1's output the first 2 N bits by the first mode, the next by the second, and so on
unfoldable pub pdus : List Pdu → Selection
pdus [] = all
pdus (p ∷ ps) = beside (2 * p.length) (pdu_sent p) (pdu p.mode) (pdus ps)

-- a train of a list of PDUs
unfoldable pub listed : List Pdu → ℕ → Selection
listed ps a = after (p1 a) (pdus ps)
