-- What has passed the tests, and what a PDU of the source holds. What a whole train holds is in Passed.antt.
--   Fit        a mode and a length that are not refused
--   EachFit    every PDU of a list has such
--   FitList    a list that is not refused
--   LegalList  a list, a counter and a that are not refused
--   held       a PDU of the source by its mode's number
--   Holds      a PDU of the source holds that mode and length
-- Assumes nothing.
use Rattle.std.specs.Prelude.{ℕ, ◌+◌, ◌%◌, ◌≤◌, ◌≡◌, List, [], ◌∷◌, length}
use Rattle.modes.specs.declared.Constellation.TheVariants.{Bpsk}
use Rattle.modes.specs.declared.Rate.TheVariants.{Half}
use Rattle.modes.specs.declared.Pdu as source
use Rattle.modes.specs.Modes.{constellation_of, rate_of, info, number}
use Rattle.modes.specs.Pdus.{Pdu, pdu_of, length_of}

-- a mode and a length that are not refused
pub record Fit (mode N : ℕ) : Type 0 where
  pub from_1 : 1 ≤ mode
  pub to_7 : mode ≤ 7
  pub from_72 : 72 ≤ N
  pub to_3456 : N ≤ 3456
  pub whole_octets : N % 8 ≡ 0
  pub whole_symbols : N % info mode ≡ 0

-- every PDU has such a mode and length
unfoldable pub EachFit : List Pdu → Type 0
EachFit [] = Unit {0}
EachFit (p ∷ ps) = Fit p.mode p.length × EachFit ps

-- a list that is not refused
pub record FitList (ps : List Pdu) : Type 0 where
  pub from_1 : 1 ≤ length ps
  pub to_16 : length ps ≤ 16
  pub each : EachFit ps
  pub to_3456 : length_of ps ≤ 3456

-- a list, a counter and a that are not refused
pub record LegalList (ps : List Pdu) (counter a : ℕ) : Type 0 where
  pub fit : FitList ps
  pub to_15 : counter ≤ 15
  pub inside : a + 72 ≤ length_of ps

-- a PDU of the source by its mode's number
abbrev pub held : source.Pdu → Pdu
held p = pdu_of (number p.mode) p.n

-- a PDU of the source holds that mode, by table 1's row, and length
pub record Holds (mode N : ℕ) (p : source.Pdu) : Type 0 where
  pub constellation_is : p.mode.constellation ≡ constellation_of mode
  pub rate_is : p.mode.rate ≡ rate_of mode
  pub n_is : p.n ≡ N

-- what stands past an array's end
abbrev pub no_pdu : source.Pdu
no_pdu = record { mode = record { constellation = Bpsk; rate = Half }; n = 0 }
