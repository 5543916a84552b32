-- The kind of a train, data or BCH, and what it decides.
--   kind_of          the kind that a number stands for at the C names
--   first_scrambled  the bit at which the scrambler is initialised, counted from 0 (5.2)
--   heeded           the frame counter that a decode goes by
--   other_than_bch   so many PDUs and bits, a first mode and an a that are not a BCH's
--   other_than       the same for each kind: of data no list is excluded
-- Assumes nothing.
use Rattle.std.specs.Prelude.{ℕ, Bool, false, not, ◌||◌, eqb}
use Rattle.laws.specs.Lists.{choose}
use Rattle.modes.specs.declared.Kind.{Kind}
use Rattle.modes.specs.declared.Kind.TheVariants.{Data, Bch}

-- 0 is data, any other number BCH
unfoldable pub kind_of : ℕ → Kind
kind_of number = choose (eqb number 0) Data Bch

-- the 5th bit of BCH, the 1st bit of data
abbrev pub first_scrambled : Kind → ℕ
first_scrambled Data = 0
first_scrambled Bch = 4

-- a BCH brings its own counter, and the caller's is not read: 0 stands for it
abbrev pub heeded : Kind → ℕ → ℕ
heeded Data counter = counter
heeded Bch counter = 0

-- another list, N, mode or a than one PDU of 120 bits, mode 1, a = 0
abbrev pub other_than_bch : (count N mode a : ℕ) → Bool
other_than_bch count N mode a = not (eqb count 1) || (not (eqb N 120) || (not (eqb mode 1) || not (eqb a 0)))

-- what a train of this kind cannot be
abbrev pub other_than : Kind → (count N mode a : ℕ) → Bool
other_than Data count N mode a = false
other_than Bch count N mode a = other_than_bch count N mode a
