-- Groups of bits and their levels (5.5, table 5).
--   _gives_           an entry of table 5: some bits and their level
--   one, two, three   table 5 for so many bits on an axis, in its order
--   table             table 5 by the number of bits on an axis
--   level             what a table gives, 0 where it gives nothing
--   width_q, width_i  how many of a group's bits are for Q, the last ones, and for I, the first
--   level_i, level_q  the levels of a group's value, its earliest bit the highest
--   group             the value of the b bits of one carrier
--   all_bits          whether every byte is 0 or 1
-- Assumes nothing.
use Rattle.std.specs.Prelude.{ℕ, ◌-◌, ◌*◌, ◌/◌, ◌%◌, ◌^◌, Bool, true, ◌&&◌, List, [], ◌∷◌, ℤ, pos, neg_ℤ, ltb, eqb, get_or}
use Rattle.laws.specs.Lists.{choose}
use Rattle.laws.specs.Packing.{written}
use Rattle.modes.specs.declared.Constellation.{Constellation}
use Rattle.modes.specs.Modes.{bits_of}

infix 20 ◌gives◌
-- an entry of table 5: some bits and their level
pub data Entry : Type 0 where
  ◌gives◌ : ℕ → ℤ → Entry

-- a level below zero
abbrev pub minus : ℕ → ℤ
minus n = neg_ℤ (pos n)

-- one bit
unfoldable pub one : List Entry
one = (0 gives minus 1) ∷ (1 gives pos 1) ∷ []

-- two bits
unfoldable pub two : List Entry
two = (0b00 gives minus 3) ∷ (0b01 gives minus 1) ∷ (0b11 gives pos 1) ∷ (0b10 gives pos 3) ∷ []

-- three bits
unfoldable pub three : List Entry
three =
    (0b000 gives minus 7)
    ∷ (0b001 gives minus 5)
    ∷ (0b011 gives minus 3)
    ∷ (0b010 gives minus 1)
    ∷ (0b110 gives pos 1)
    ∷ (0b111 gives pos 3)
    ∷ (0b101 gives pos 5)
    ∷ (0b100 gives pos 7)
    ∷ []

-- table 5 by the number of bits on an axis
unfoldable pub table : ℕ → List Entry
table w = get_or ([] ∷ one ∷ two ∷ three ∷ []) w []

-- what a table gives for some bits, 0 where it gives nothing
unfoldable pub level : List Entry → ℕ → ℤ
level [] v = pos 0
level ((b gives l) ∷ es) v = choose (eqb v b) l (level es v)

-- how many of a group's bits, the last ones, are for Q: half, which of BPSK's one bit is none
unfoldable pub width_q : Constellation → ℕ
width_q c = bits_of c / 2

-- how many, the first ones, are for I
unfoldable pub width_i : Constellation → ℕ
width_i c = bits_of c - width_q c

-- the level on I of a group's value, its earliest bit the highest
unfoldable pub level_i : Constellation → ℕ → ℤ
level_i c g = level (table (width_i c)) (g / 2 ^ width_q c)

-- the level on Q
unfoldable pub level_q : Constellation → ℕ → ℤ
level_q c g = level (table (width_q c)) (g % 2 ^ width_q c)

-- the value of the b bits from `from` on, the earliest the highest
abbrev pub value_of : List ℕ → ℕ → ℕ → ℕ
value_of bits from b = written (λ m. get_or bits m 0) from b

-- the value of the b bits of carrier c
unfoldable pub group : ℕ → List ℕ → ℕ → ℕ
group b bits c = value_of bits (b * c) b

-- whether every byte is 0 or 1
unfoldable pub all_bits : List ℕ → Bool
all_bits [] = true
all_bits (x ∷ xs) = ltb x 2 && all_bits xs
