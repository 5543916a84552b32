-- The way back along decision words: f t s is the oldest bit on the way into state s at step t.
--   followed  the oldest bits on the way back from state s, t steps long, the last step's first
-- Assumes nothing.
use Rattle.std.specs.Prelude.{ℕ, zero, suc, List, [], ◌∷◌}
use Rattle.trellis.specs.Passes.{before}

-- the oldest bits on the way back from state s
unfoldable pub followed : (ℕ → ℕ → ℕ) → ℕ → ℕ → List ℕ
followed f zero s = []
followed f (suc t) s = f t s ∷ followed f t (before s (f t s))
