-- Values put at scattered places of one part of a buffer.
--   Seats      the first `size` entries of a table are different places below `size`
--   Scattered  k values stand at their places in the part of `size` entries from `base` on; what lies before and behind is as it was
--   Placed     n values stand at their places in a buffer; all else is as it was
-- Assumes nothing.
use Rattle.std.specs.Prelude.{◌≡◌, List, ℕ, ◌+◌, ◌≤◌, ◌<◌, length, get_or}

-- the first `size` entries of a table are different places below `size`
pub record Seats (table : List ℕ) (size : ℕ) : Type 0 where
  pub within : (k : ℕ) → k < size → get_or table k 0 < size
  pub apart : (i k : ℕ) → i < k → k < size → get_or table i 0 ≡ get_or table k 0 → ⊥

-- the values v 0, .., v (k - 1) stand at their places in the part from `base` on; what lies before and behind is as it was
pub record Scattered (base size : ℕ) (table : List ℕ) (v : ℕ → ℕ) (k : ℕ) (l l' : List ℕ) : Type 0 where
  pub long : length l' ≡ length l
  pub put : (i : ℕ) → i < k → get_or l' (base + get_or table i 0) 0 ≡ v i
  pub before : (q : ℕ) → q < base → get_or l' q 0 ≡ get_or l q 0
  pub behind : (q : ℕ) → base + size ≤ q → get_or l' q 0 ≡ get_or l q 0

-- the values v 0, .., v (n - 1) stand at the places to 0, .., to (n - 1); all else is as it was
pub record Placed (to v : ℕ → ℕ) (n : ℕ) (l l' : List ℕ) : Type 0 where
  pub long : length l' ≡ length l
  pub put : (k : ℕ) → k < n → get_or l' (to k) 0 ≡ v k
  pub others : (m : ℕ) → ((k : ℕ) → k < n → to k ≡ m → ⊥) → get_or l' m 0 ≡ get_or l m 0
