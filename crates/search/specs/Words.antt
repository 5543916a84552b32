-- Decision words: one word of 64 bits for each step, made of sixteen bytes, four states to a byte.
--   four_bits                           bits 0, 2, 4 and 6 of a byte
--   Chosen                              which way is the better one by the gaps of the states
--   two_bytes, four_bytes, eight_bytes  bytes from place k on as one number, the first the lowest
--   seat                                which bit of a word is that of state s
--   bit_in                              the bit of state s in word t
-- Assumes nothing.
use Rattle.std.specs.Prelude.{◌≡◌, ℕ, ◌+◌, ◌*◌, ◌/◌, ◌%◌, ◌^◌, ◌<◌, List, length, slice_index}
use Rattle.search.specs.Stored.{top}

-- bits 0, 2, 4 and 6 of a byte
abbrev pub four_bits : ℕ → ℕ → ℕ → ℕ → ℕ
four_bits b0 b1 b2 b3 = b0 + 4 * b1 + 16 * b2 + 64 * b3

-- which way is the better one by the gap f s of each state s: byte j has the bits of the states j, j + 16, j + 32 and j + 48
pub record Chosen (f : ℕ → ℕ) (bytes : List ℕ) : Type 0 where
  pub sixteen : length bytes ≡ 16
  pub four : (j : ℕ) → j < 16 → slice_index bytes j ≡ four_bits (top (f j)) (top (f (j + 16))) (top (f (j + 32))) (top (f (j + 48)))

-- bytes from place k on as one number, the first the lowest
abbrev pub two_bytes : List ℕ → ℕ → ℕ
two_bytes bytes k = slice_index bytes k + 256 * slice_index bytes (k + 1)

abbrev pub four_bytes : List ℕ → ℕ → ℕ
four_bytes bytes k = two_bytes bytes k + 65536 * two_bytes bytes (k + 2)

abbrev pub eight_bytes : List ℕ → ℕ → ℕ
eight_bytes bytes k = four_bytes bytes k + 4294967296 * four_bytes bytes (k + 4)

-- which bit of a word is that of state s: the octal digits of the state change places
abbrev pub seat : ℕ → ℕ
seat s = 8 * (s % 8) + s / 8

-- the bit of state s in word t
unfoldable pub bit_in : List ℕ → ℕ → ℕ → ℕ
bit_in words t s = slice_index words t / 2 ^ seat s % 2
