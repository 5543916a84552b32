-- The cases that document 01 marks *: what the definitions give, beside what the document says.
--   Case, _gives_  numbers worked out by the definitions, and the document's numbers
--   place_in       where bit k of a mode's symbol goes
--   soft_on_i      the soft byte of bit j of I
--   cases          the starred cases
--   Hold           in every case of a list the two are the same
-- Assumes nothing.
use Rattle.std.specs.Prelude.{ℕ, ◌≡◌, List, [], ◌∷◌, ℤ, pos}
use Rattle.laws.specs.Lists.{tabulate}
use Rattle.modes.specs.declared.Constellation.{Constellation}
use Rattle.modes.specs.declared.Constellation.TheVariants.{Qpsk, Qam16, Qam64}
use Rattle.modes.specs.Modes.{bits, sent}
use Rattle.places.specs.Interleaver.{place_in_symbol}
use Rattle.coder.specs.Scrambler.{scrambled}
use Rattle.coder.specs.Encoder.{tailed, coded}
use Rattle.points.specs.Levels.{minus, width_i}
use Rattle.soft.specs.Soft.{soft_byte}

infix 20 ◌gives◌
-- numbers worked out by the definitions, signed or not, and the document's numbers
pub data Case : Type 1 where
  ◌gives◌ : {A : Type 0} → List A → List A → Case

-- where bit k of a mode's symbol goes
unfoldable pub place_in : ℕ → ℕ → ℕ
place_in mode k = place_in_symbol (sent mode) (bits mode) k

-- the soft byte of bit j of I, at a reading
unfoldable pub soft_on_i : Constellation → ℕ → ℤ → ℤ
soft_on_i c j r = soft_byte (width_i c) j r

-- the starred cases
unfoldable pub cases : List Case
cases =
    -- with counter 0100, bits 10011101 000 become 00111110 011
    (scrambled 0b0100 11 (0b10011101 ∷ 0b00000000 ∷ []) gives 0 ∷ 0 ∷ 1 ∷ 1 ∷ 1 ∷ 1 ∷ 1 ∷ 0 ∷ 0 ∷ 1 ∷ 1 ∷ [])
    -- input 1 and six zeros: pairs XY 11 01 11 11 00 10 11
    ∷ (tabulate 14 (coded (tailed (1 ∷ []))) gives 1 ∷ 1 ∷ 0 ∷ 1 ∷ 1 ∷ 1 ∷ 1 ∷ 1 ∷ 0 ∷ 0 ∷ 1 ∷ 0 ∷ 1 ∷ 1 ∷ [])
    -- mode 1: k 1 to 3, k 17 to 4
    ∷ (place_in 1 1 ∷ place_in 1 17 ∷ [] gives 3 ∷ 4 ∷ [])
    -- mode 5: k 1 to 13, k 2 to 24
    ∷ (place_in 5 1 ∷ place_in 5 2 ∷ [] gives 13 ∷ 24 ∷ [])
    -- mode 7: k 1 to 20, k 17 to 18
    ∷ (place_in 7 1 ∷ place_in 7 17 ∷ [] gives 20 ∷ 18 ∷ [])
    -- soft, QPSK: 32 gives 1; -32, -1; 2,049, 32
    ∷ (soft_on_i Qpsk 0 (pos 32) ∷ soft_on_i Qpsk 0 (minus 32) ∷ soft_on_i Qpsk 0 (pos 2049) ∷ [] gives pos 1 ∷ minus 1 ∷ pos 32 ∷ [])
    -- 16QAM first bit of I: 768 gives 16; second: 0 gives 8; 2,048, -24
    ∷ (soft_on_i Qam16 0 (pos 768) ∷ soft_on_i Qam16 1 (pos 0) ∷ soft_on_i Qam16 1 (pos 2048) ∷ [] gives pos 16 ∷ pos 8 ∷ minus 24 ∷ [])
    -- 64QAM first: 2,048 gives 80; third: 1,024 gives 8
    ∷ (soft_on_i Qam64 0 (pos 2048) ∷ soft_on_i Qam64 2 (pos 1024) ∷ [] gives pos 80 ∷ pos 8 ∷ [])
    ∷ []

-- in every case the two are the same
unfoldable pub Hold : List Case → Type 0
Hold [] = Unit {0}
Hold ((found gives said) ∷ rest) = (found ≡ said) × Hold rest
