-- The modes: table 1, which gives each number its constellation and rate, and the values of these.
--   Row, table1                                  document 01's table, a row to a mode, in its columns
--   row_of                                       the row of a mode's number; for any other number the row of no mode
--   constellation_in .. info_in                  the columns of a row
--   constellation_of, rate_of, bits, sent, info  the columns, by a mode's number
--   bits_of                                      a constellation's bits per carrier
--   info_of                                      a pair's information bits per symbol
--   number                                       the paper's number of a mode, 0 for the five pairs that are none
-- Assumes nothing.
use Rattle.std.specs.Prelude.{ℕ, ◌*◌, List, [], ◌∷◌, get_or}
use Rattle.modes.specs.declared.Constellation.{Constellation}
use Rattle.modes.specs.declared.Constellation.TheVariants.{Bpsk, Qpsk, Qam16, Qam64}
use Rattle.modes.specs.declared.Rate.{Rate}
use Rattle.modes.specs.declared.Rate.TheVariants.{Half, NineSixteenths, ThreeQuarters}
use Rattle.modes.specs.declared.Mode.{Mode}

-- constellation, rate, bits per carrier, sent bits per symbol, information bits per symbol
pub data Row : Type 0 where
  row : Constellation → Rate → ℕ → ℕ → ℕ → Row

-- modes 1 to 7
unfoldable pub table1 : List Row
table1 =
    row Bpsk Half 1 48 24
    ∷ row Bpsk ThreeQuarters 1 48 36
    ∷ row Qpsk Half 2 96 48
    ∷ row Qpsk ThreeQuarters 2 96 72
    ∷ row Qam16 NineSixteenths 4 192 108
    ∷ row Qam16 ThreeQuarters 4 192 144
    ∷ row Qam64 ThreeQuarters 6 288 216
    ∷ []

-- what a number that is no mode's stands for: a pair that is no mode, and no bits
unfoldable pub no_mode : Row
no_mode = row Qam64 Half 0 0 0

-- the row of a mode's number
unfoldable pub row_of : ℕ → Row
row_of k = get_or (no_mode ∷ table1) k no_mode

-- a row's constellation
unfoldable pub constellation_in : Row → Constellation
constellation_in (row c r b s i) = c

-- a row's code rate
unfoldable pub rate_in : Row → Rate
rate_in (row c r b s i) = r

-- a row's bits per carrier
unfoldable pub bits_in : Row → ℕ
bits_in (row c r b s i) = b

-- a row's sent bits per symbol
unfoldable pub sent_in : Row → ℕ
sent_in (row c r b s i) = s

-- a row's information bits per symbol
unfoldable pub info_in : Row → ℕ
info_in (row c r b s i) = i

-- a mode's constellation
unfoldable pub constellation_of : ℕ → Constellation
constellation_of k = constellation_in (row_of k)

-- a mode's code rate
unfoldable pub rate_of : ℕ → Rate
rate_of k = rate_in (row_of k)

-- a mode's bits per carrier
unfoldable pub bits : ℕ → ℕ
bits k = bits_in (row_of k)

-- a mode's sent bits per symbol
unfoldable pub sent : ℕ → ℕ
sent k = sent_in (row_of k)

-- a mode's information bits per symbol
unfoldable pub info : ℕ → ℕ
info k = info_in (row_of k)

-- a constellation's bits per carrier: table 1's column, which does not go by the rate
abbrev pub bits_of : Constellation → ℕ
bits_of Bpsk = 1
bits_of Qpsk = 2
bits_of Qam16 = 4
bits_of Qam64 = 6

-- a pair's information bits per symbol: that part of its sent bits, 48 for each bit per carrier, which the rate says
abbrev pub info_of : Constellation → Rate → ℕ
info_of c Half = 24 * bits_of c
info_of c NineSixteenths = 27 * bits_of c
info_of c ThreeQuarters = 36 * bits_of c

-- the number of a constellation and a rate, 0 for the five pairs that are no mode
unfoldable pub number_of : Constellation → Rate → ℕ
number_of Bpsk Half = 1
number_of Bpsk NineSixteenths = 0
number_of Bpsk ThreeQuarters = 2
number_of Qpsk Half = 3
number_of Qpsk NineSixteenths = 0
number_of Qpsk ThreeQuarters = 4
number_of Qam16 Half = 0
number_of Qam16 NineSixteenths = 5
number_of Qam16 ThreeQuarters = 6
number_of Qam64 Half = 0
number_of Qam64 NineSixteenths = 0
number_of Qam64 ThreeQuarters = 7

-- the paper's number of a mode
abbrev pub number : Mode → ℕ
number m = number_of m.constellation m.rate
