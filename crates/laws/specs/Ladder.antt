-- Refusals: tests in an order, each with its number.
--   Rung    a number and whether its test holds
--   ladder  the number of the first test that holds, 0 where none does
--   given   a refusal that was found before, as a rung
-- Assumes nothing.
use Rattle.std.specs.Prelude.{Bool, true, false, not, List, [], ◌∷◌, ℕ, eqb}

infix 20 ◌when◌
-- a refusal's number, and whether its test holds
pub data Rung : Type 0 where
  ◌when◌ : ℕ → Bool → Rung

-- the number of the first test that holds, 0 where none does
unfoldable pub ladder : List Rung → ℕ
ladder [] = 0
ladder ((k when true) ∷ rest) = k
ladder ((k when false) ∷ rest) = ladder rest

-- a refusal that was found before, 0 where there was none
abbrev pub given : ℕ → Rung
given k = k when not (eqb k 0)
