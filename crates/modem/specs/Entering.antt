-- A train as it enters the encoder (5.2), by its kind and its octets.
--   counter_in     the frame counter that its scrambler starts from, by its bits
--   entering       its N bits as they enter the encoder
--   counter_other  12 on encoding: whether the first four bits are not the given counter
-- Assumes nothing.
use Rattle.std.specs.Prelude.{ℕ, Bool, false, not, List, eqb}
use Rattle.modes.specs.declared.Kind.{Kind}
use Rattle.modes.specs.declared.Kind.TheVariants.{Data, Bch}
use Rattle.modes.specs.Kinds.{first_scrambled}
use Rattle.coder.specs.Scrambler.{bit_of, scrambled_from, frame_counter}

-- the given counter; a BCH has its own, in its first four bits
abbrev pub counter_in : Kind → (counter : ℕ) → (bit : ℕ → ℕ) → ℕ
counter_in Data counter bit = counter
counter_in Bch counter bit = frame_counter bit

-- the N bits that octets hold, scrambled from the kind's first bit on
unfoldable pub entering : Kind → (counter N : ℕ) → List ℕ → List ℕ
entering kind counter N octets = scrambled_from (first_scrambled kind) (counter_in kind counter (bit_of octets)) N octets

-- the first four bits of a BCH are not the given counter
abbrev pub counter_other : Kind → (counter : ℕ) → List ℕ → Bool
counter_other Data counter octets = false
counter_other Bch counter octets = not (eqb (frame_counter (bit_of octets)) counter)
