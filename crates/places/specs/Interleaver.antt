-- The interleaver (5.4), by the sent bits per symbol S and the bits per carrier b.
--   unit             s, the greater of 1 and half the bits per carrier
--   place_in_symbol  where bit k of a symbol goes
--   entry_of         the places of the bits of symbols of several sizes, one after the other
--   sheet            those of 48, 96, 192 and 288 bits
--   block_of         where a constellation's symbols begin on the sheet
--   places_of        the places of a symbol's bits as a table of 288 entries
--   seated           the symbol when its first n bits have gone to their places: entry j is the bit that stands at j
--   interleaver      the same in every symbol
-- Assumes nothing.
use Rattle.std.specs.Prelude.{ℕ, zero, suc, ◌+◌, ◌-◌, ◌*◌, ◌/◌, ◌%◌, max, List, [], ◌∷◌, ltb, set, replicate}
use Rattle.laws.specs.Lists.{choose, filled}
use Rattle.modes.specs.declared.Constellation.{Constellation}
use Rattle.modes.specs.declared.Constellation.TheVariants.{Bpsk, Qpsk, Qam16, Qam64}
use Rattle.places.specs.Selection.{Selection, blocks}

-- s, the greater of 1 and half the bits per carrier
unfoldable pub unit : ℕ → ℕ
unit b = max 1 (b / 2)

-- bit k goes to i
unfoldable pub first_step : ℕ → ℕ → ℕ
first_step S k = S / 16 * (k % 16) + k / 16

-- and i to j
unfoldable pub second_step : ℕ → ℕ → ℕ → ℕ
second_step S s i = s * (i / s) + (i + S - 16 * i / S) % s

-- where bit k of a symbol goes
unfoldable pub place_in_symbol : ℕ → ℕ → ℕ → ℕ
place_in_symbol S b k = second_step S (unit b) (first_step S k)

-- entry k of the places of symbols with so many bits per carrier, one after the other
unfoldable pub entry_of : List ℕ → ℕ → ℕ
entry_of [] k = 0
entry_of (b ∷ bs) k = choose (ltb k (48 * b)) (place_in_symbol (48 * b) b k) (entry_of bs (k - 48 * b))

-- the sheet: symbols of 48, 96, 192 and 288 bits
unfoldable pub sheet : ℕ → ℕ
sheet = entry_of (1 ∷ 2 ∷ 4 ∷ 6 ∷ [])

-- where a constellation's symbols begin on the sheet
abbrev pub block_of : Constellation → ℕ
block_of Bpsk = 0
block_of Qpsk = 48
block_of Qam16 = 48 + 96
block_of Qam64 = 48 + 96 + 192

-- a table of places that is still empty
unfoldable pub no_places : List ℕ
no_places = replicate 288 0

-- the table of a symbol's places, as long as the largest symbol
unfoldable pub places_of : ℕ → ℕ → List ℕ
places_of S b = filled S (place_in_symbol S b) no_places

-- the symbol when its first n bits have gone to their places
unfoldable pub seated : ℕ → ℕ → ℕ → List ℕ
seated S b zero = replicate S 0
seated S b (suc n) = set (seated S b n) (place_in_symbol S b n) n

-- the same in every symbol
unfoldable pub interleaver : ℕ → ℕ → Selection
interleaver S b = blocks (seated S b S) S
