-- Octets as bits, and the scrambler (5.2). Its state is the number that the standard writes: stages 7 to 1 from the left.
--   bit_of                     bit t of a train's octets, most significant bit first
--   start                      stages 7 to 1 are 1 1 1 n4 n3 n2 n1
--   output                     stage 7 xor stage 4
--   shifted                    shifting from stage 1 towards 7, the output fed back
--   shifted_by                 the same j times
--   state                      the state when t bits have been scrambled
--   scrambled                  the train's N bits, each xored with one output
--   state_at, Rested           the same where it is initialised at bit `first` and rests before
--   mask                       what bit t is xored with where the scrambler is initialised at bit `first`
--   scrambled_from             the train's N bits, each xored with its mask
--   descrambled_bit, octet_at  the way back: a scrambled train's bits descrambled, eight to an octet
--   frame_counter              the number that the first four bits write
-- Assumes nothing.
use Rattle.std.specs.Prelude.{◌≡◌, ◌≢◌, ℕ, zero, suc, ◌+◌, ◌-◌, ◌*◌, ◌/◌, ◌%◌, ◌^◌, List, ltb, get_or}
use Rattle.laws.specs.Lists.{choose, tabulate}
use Rattle.laws.specs.Packing.{written}

-- bit t of a train's octets, most significant bit first
abbrev pub bit_of : List ℕ → ℕ → ℕ
bit_of octets t = get_or octets (t / 8) 0 / 2 ^ (7 - t % 8) % 2

-- stages 7 to 1 are 1 1 1 n4 n3 n2 n1
abbrev pub start : ℕ → ℕ
start counter = 112 + counter

-- stage 7 xor stage 4
abbrev pub output : ℕ → ℕ
output s = (s / 64 + s / 8) % 2

-- shifting from stage 1 towards 7, the output fed back
abbrev pub shifted : ℕ → ℕ
shifted s = (2 * s + output s) % 128

-- the state after j shifts
unfoldable pub shifted_by : ℕ → ℕ → ℕ
shifted_by zero s = s
shifted_by (suc j) s = shifted (shifted_by j s)

-- the state when t bits have been scrambled
unfoldable pub state : ℕ → ℕ → ℕ
state counter zero = start counter
state counter (suc t) = shifted (state counter t)

-- the state at bit t where the scrambler is initialised at bit `first`: all zeros before, which give zeros and stay
unfoldable pub state_at : (first counter : ℕ) → ℕ → ℕ
state_at first counter t = choose (ltb t first) 0 (state counter (t - first))

-- the state that comes to bit t, where it is initialised if that is bit `first`
abbrev pub Rested : (first counter : ℕ) → ℕ → ℕ → Type 0
Rested first counter t s = t ≢ first → s ≡ state_at first counter t

-- one bit xored with one output
unfoldable pub scrambled_bit : ℕ → List ℕ → ℕ → ℕ
scrambled_bit counter octets t = (bit_of octets t + output (state counter t)) % 2

-- the train's N bits, scrambled
unfoldable pub scrambled : ℕ → ℕ → List ℕ → List ℕ
scrambled counter N octets = tabulate N (scrambled_bit counter octets)

-- where the scrambler is initialised at bit `first`, counted from 0: what bit t is xored with, nothing before that bit
unfoldable pub mask : (first counter : ℕ) → ℕ → ℕ
mask first counter t = choose (ltb t first) 0 (output (state counter (t - first)))

-- one bit xored with its mask
unfoldable pub masked_bit : (first counter : ℕ) → List ℕ → ℕ → ℕ
masked_bit first counter octets t = (bit_of octets t + mask first counter t) % 2

-- the train's N bits, scrambled from bit `first` on
unfoldable pub scrambled_from : (first counter N : ℕ) → List ℕ → List ℕ
scrambled_from first counter N octets = tabulate N (masked_bit first counter octets)

-- one bit of a scrambled train xored with the same mask: descrambling is the same
unfoldable pub descrambled_bit : (first counter : ℕ) → List ℕ → ℕ → ℕ
descrambled_bit first counter w t = (get_or w t 0 + mask first counter t) % 2

-- octet k of a train that is descrambled
unfoldable pub octet_at : (first counter : ℕ) → List ℕ → ℕ → ℕ
octet_at first counter w k = written (descrambled_bit first counter w) (8 * k) 8

-- the number that the first four bits write, n4 first
unfoldable pub frame_counter : (ℕ → ℕ) → ℕ
frame_counter bit = written bit 0 4
