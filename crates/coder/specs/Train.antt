-- A train's bits, and its octets as coded bits.
--   Train      a list of N bits
--   inputs_of  what enters the encoder: a train's octets, scrambled from bit `first` on, and the tail
--   coded_bit  coded bit m of a train of N bits: scrambled from bit `first` on, tailed and coded
--   CodesOn    what coding some of the inputs promises
-- Assumes nothing.
use Rattle.std.specs.Prelude.{◌≡◌, ℕ, ◌+◌, ◌*◌, ◌≤◌, ◌<◌, List, length, get_or}
use Rattle.laws.specs.Lists.{filled}
use Rattle.coder.specs.Scrambler.{output, shifted_by, mask, scrambled_from}
use Rattle.coder.specs.Encoder.{tailed, coded}
use Rattle.coder.specs.Register.{register}

-- a list of N bits
pub record Train (N : ℕ) (w : List ℕ) : Type 0 where
  pub count : length w ≡ N
  pub low : (t : ℕ) → t < N → get_or w t 0 < 2

-- what enters the encoder: the train's bits, scrambled from bit `first` on, and the tail
abbrev pub inputs_of : (first counter N : ℕ) → List ℕ → List ℕ
inputs_of first counter N octets = tailed (scrambled_from first counter N octets)

-- coded bit m of a train of N bits: scrambled from bit `first` on, tailed and coded
unfoldable pub coded_bit : (first counter N : ℕ) → List ℕ → ℕ → ℕ
coded_bit first counter N octets = coded (inputs_of first counter N octets)

-- coding the inputs from `from` up to `end` in the scrambler's state s: where the outputs are the masks of these bits and the register r is
-- that of the inputs before, r' is that of the inputs up to the end, and the pairs at the front of the buffer have gone on from l to l'
unfoldable pub CodesOn : (N : ℕ) → (octets : List ℕ) → (from end s r r' : ℕ) → (l l' : List ℕ) → Type 0
CodesOn N octets from end s r r' l l' =
    (first counter : ℕ) (l₀ : List ℕ) → 2 * end ≤ length l₀
    → ((j : ℕ) → from + j < end → output (shifted_by j s) ≡ mask first counter (from + j))
    → r ≡ register (inputs_of first counter N octets) from
    → l ≡ filled (2 * from) (coded_bit first counter N octets) l₀
    → (r' ≡ register (inputs_of first counter N octets) end) × (l' ≡ filled (2 * end) (coded_bit first counter N octets) l₀)
