-- A train as a list of PDUs, each with its mode and its length.
--   Pdu                                          a mode's number and information bits N
--   one                                          a list of one PDU: document 01's train
--   pdus_of                                      the list that a count and two arrays say
--   pdu_symbols .. pdu_sent                      the sizes of one PDU
--   sum_of                                       a size summed over a list
--   length_of, symbols_of, carriers_of, sent_of  document 01's N, symbols, carriers and n, as sums
--   Share, share_of                              the PDU that an entry belongs to where each PDU gives so many, those before it, and the entry's number in it
-- Assumes nothing.
use Rattle.std.specs.Prelude.{ℕ, ◌+◌, ◌-◌, List, [], ◌∷◌, ◌++◌, ltb, get_or}
use Rattle.laws.specs.Lists.{choose, tabulate}
use Rattle.modes.specs.Sizes.{symbols, carriers, sent_bits}

-- a mode's number and a length
pub record Pdu : Type 0 where
  pub mode : ℕ
  pub length : ℕ

-- a PDU by its parts
abbrev pub pdu_of : ℕ → ℕ → Pdu
pdu_of mode N = record { mode = mode; length = N }

-- a list of one PDU
abbrev pub one : ℕ → ℕ → List Pdu
one mode N = pdu_of mode N ∷ []

-- the list that a count and two arrays say: entries past the count are not read
unfoldable pub pdus_of : (count : ℕ) → (modes lengths : List ℕ) → List Pdu
pdus_of count modes lengths = tabulate count (λ k. pdu_of (get_or modes k 0) (get_or lengths k 0))

-- the symbols of one PDU
abbrev pub pdu_symbols : Pdu → ℕ
pdu_symbols p = symbols p.mode p.length

-- its data carriers
abbrev pub pdu_carriers : Pdu → ℕ
pdu_carriers p = carriers p.mode p.length

-- its sent bits
abbrev pub pdu_sent : Pdu → ℕ
pdu_sent p = sent_bits p.mode p.length

-- a size summed over a list
unfoldable pub sum_of : (Pdu → ℕ) → List Pdu → ℕ
sum_of size [] = 0
sum_of size (p ∷ ps) = size p + sum_of size ps

-- N of a list
abbrev pub length_of : List Pdu → ℕ
length_of ps = sum_of (λ p. p.length) ps

-- its symbols
abbrev pub symbols_of : List Pdu → ℕ
symbols_of ps = sum_of pdu_symbols ps

-- its data carriers
abbrev pub carriers_of : List Pdu → ℕ
carriers_of ps = sum_of pdu_carriers ps

-- n of a list
abbrev pub sent_of : List Pdu → ℕ
sent_of ps = sum_of pdu_sent ps

-- the PDUs before, the PDU, and the number of the entry in it
pub record Share : Type 0 where
  pub before : List Pdu
  pub pdu : Pdu
  pub at : ℕ

-- entry k, where each PDU gives so many: the first PDU's, or one of the rest's
unfoldable pub share_of : (Pdu → ℕ) → (before ps : List Pdu) → ℕ → Share
share_of size before [] k = record { before = before; pdu = pdu_of 0 0; at = k }
share_of size before (p ∷ ps) k =
    choose (ltb k (size p)) (record { before = before; pdu = p; at = k }) (share_of size (before ++ p ∷ []) ps (k - size p))
