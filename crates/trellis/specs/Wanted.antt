-- Which train is wanted, and when it is confirmed; whatever the cost of a train and the count of differing bits may be.
--   Ahead      of two trains, the one with 0 at the last place where the two differ
--   Returned   of all trains of N bits the one of least cost; of equals, the one ahead
--   Confirmed  against every other train, twice the difference of the costs is greater than the number of differing bits
-- Assumes nothing.
use Rattle.std.specs.Prelude.{◌≡◌, ◌≢◌, List, ℕ, ◌+◌, ◌*◌, ◌≤◌, ◌<◌, get_or}
use Rattle.coder.specs.Train.{Train}

-- w has 0 at the last place where the two differ
pub record Ahead (w v : List ℕ) : Type 0 where
  pub place : ℕ
  pub has_0 : get_or w place 0 ≡ 0
  pub has_1 : get_or v place 0 ≡ 1
  pub last : (t : ℕ) → place < t → get_or w t 0 ≡ get_or v t 0

-- w is of all trains of N bits the one of least cost; of equals, the one ahead
pub record Returned (N : ℕ) (cost : List ℕ → ℕ) (w : List ℕ) : Type 0 where
  pub train : Train N w
  pub least : (v : List ℕ) → Train N v → cost w ≤ cost v
  pub ahead : (v : List ℕ) → Train N v → v ≢ w → cost v ≡ cost w → Ahead w v

-- w is a good way ahead of every other train of N bits
unfoldable pub Confirmed : ℕ → (List ℕ → ℕ) → (List ℕ → List ℕ → ℕ) → List ℕ → Type 0
Confirmed N cost differing w = (v : List ℕ) → Train N v → v ≢ w → 2 * cost w + differing w v < 2 * cost v
