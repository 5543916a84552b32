-- What the bench promises of one record of 60 bytes: mode and counter (one byte each), N and a (two bytes each, high byte first), 54 octets.
--   two                     the number that two bytes write, high byte first
--   mode_of .. octets_used  the fields of a record
--   line_refusal            its refusals: 1, 2, N above 432 in the place of 3, then those of every train
--   Line, line              a line's symbols, n, cost and mark; the same by its parts
--   Run                     a line that comes of encoding, taking ideal readings and decoding these
--   LineOf                  a record's refusal and line
--   mark_of                 the letter of a line
-- Assumes nothing.
use Rattle.std.specs.Prelude.{ℕ, ◌+◌, ◌*◌, Bool, false, List, ◌∷◌, ltb, eqb, ℤ, get_or, take, drop}
use Rattle.laws.specs.Ladder.{◌when◌, ladder}
use Rattle.laws.specs.Lists.{choose}
use Rattle.laws.specs.Answers.{Leaves}
use Rattle.modes.specs.Sizes.{carriers, sent_bits, octets_of}
use Rattle.modes.specs.Refusals.{mode_unknown, counter_above, described}
use Rattle.modem.specs.Decode.{outcome}
use Rattle.modem.specs.OneMode.{Encode, Ideal, DecodeReadings}

-- the number that two bytes write, high byte first
abbrev pub two : (high low : ℕ) → ℕ
two high low = 256 * high + low

-- byte 0
unfoldable pub mode_of : List ℕ → ℕ
mode_of bytes = get_or bytes 0 0

-- byte 1
unfoldable pub counter_of : List ℕ → ℕ
counter_of bytes = get_or bytes 1 0

-- N: bytes 2 and 3
unfoldable pub length_of : List ℕ → ℕ
length_of bytes = two (get_or bytes 2 0) (get_or bytes 3 0)

-- a: bytes 4 and 5
unfoldable pub place_of : List ℕ → ℕ
place_of bytes = two (get_or bytes 4 0) (get_or bytes 5 0)

-- of the 54 octets the N/8 that are used
unfoldable pub octets_used : List ℕ → List ℕ
octets_used bytes = take (octets_of (length_of bytes)) (drop 6 bytes)

-- 1, 2, and 3 for N above 432; then the refusals of every train, of which 1 and 2 have passed
unfoldable pub line_refusal : (mode counter N a : ℕ) → ℕ
line_refusal mode counter N a =
    ladder
    ((1 when mode_unknown mode)
    ∷ (2 when counter_above counter)
    ∷ (3 when ltb 432 N)
    ∷ described mode counter N a)

-- symbols, n, rounded cost and mark
pub record Line : Type 0 where
  pub symbols : ℕ
  pub n : ℕ
  pub cost : ℕ
  pub confirmed : Bool

-- a line by its parts
abbrev pub line : (symbols n cost : ℕ) → Bool → Line
line symbols n cost confirmed = record { symbols = symbols; n = n; cost = cost; confirmed = confirmed }

-- the octets are encoded, the ideal readings of the sent bits are taken, and the line is what decoding these readings reports, but for
-- its comparisons; each call is done, and what stood in the buffers before does not matter
pub record Run (mode counter N a : ℕ) (octets : List ℕ) (l : Line) : Type 0 where
  pub sent₀ : List ℕ
  pub sent : List ℕ
  pub i₀ : List ℤ
  pub q₀ : List ℤ
  pub i : List ℤ
  pub q : List ℤ
  pub octets₀ : List ℕ
  pub words₀ : List ℕ
  pub octets' : List ℕ
  pub words' : List ℕ
  pub comparisons : ℕ
  pub encoded : Encode mode counter N a octets sent₀ 0 sent
  pub taken : Ideal mode N (take (sent_bits mode N) sent) i₀ q₀ 0 i q
  pub decoded : DecodeReadings mode counter N a (take (carriers mode N) i) (take (carriers mode N) q) octets₀ words₀ 0
      (outcome l.symbols l.n l.cost l.confirmed comparisons octets' words')

-- the refusal r of a record, and its line: all zero and not confirmed where it is refused
unfoldable pub LineOf : (bytes : List ℕ) → (r : ℕ) → Line → Type 0
LineOf bytes =
    Leaves (line_refusal (mode_of bytes) (counter_of bytes) (length_of bytes) (place_of bytes))
    (Run (mode_of bytes) (counter_of bytes) (length_of bytes) (place_of bytes) (octets_used bytes))
    (line 0 0 0 false)

-- C confirmed, D done but not confirmed, - refused
abbrev pub mark_of : (r : ℕ) → Bool → ℕ
mark_of r confirmed = choose (eqb r 0) (choose confirmed 67 68) 45
