-- What is said of two trains.
--   Octets    a list of n octets
--   SameSent  two trains' bits have the same n sent bits, each with its tail and encoded
-- Assumes nothing.
use Rattle.std.specs.Prelude.{◌≡◌, List, ℕ, ◌<◌, length, get_or}
use Rattle.coder.specs.Encoder.{tailed, coded}
use Rattle.places.specs.Selection.{Selection, origin}

-- a list of n octets
pub record Octets (n : ℕ) (s : List ℕ) : Type 0 where
  pub count : length s ≡ n
  pub low : (j : ℕ) → j < n → get_or s j 0 < 256

-- the same n sent bits
abbrev pub SameSent : Selection → ℕ → List ℕ → List ℕ → Type 0
SameSent f n u v = (q : ℕ) → q < n → coded (tailed u) (origin f q) ≡ coded (tailed v) (origin f q)
