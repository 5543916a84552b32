-- A coded bit as it was heard: a soft byte counted from -128, so that 128 is 0; and 0 where the bit was not heard.
--   byte_cost          what a bit costs: of its soft byte x, the greater of 0 and x if the bit is 0, of 0 and -x if it is 1
--   byte_heard         1 for a bit that was heard, else 0
--   agreeing           what a bit costs in the mark's pass: twice as much, and 1 more where it was heard and agrees with the train's own bit
--   Costs              what the two coded bits of a step cost, each being 0 and 1
--   cost_of, heard_of  the same of coded bit m of a list of bytes
-- Assumes nothing.
use Rattle.std.specs.Prelude.{◌≡◌, ℕ, ◌+◌, ◌-◌, ◌*◌, List, ◌==◌, slice_index}
use Rattle.laws.specs.Lists.{choose}
use Rattle.search.specs.Stored.{Small}

-- what a bit costs; nothing where it was not heard
unfoldable pub byte_cost : ℕ → ℕ → ℕ
byte_cost byte bit = choose (byte == 0) 0 (choose (bit == 0) (byte - 128) (128 - byte))

-- 1 for a bit that was heard, else 0
unfoldable pub byte_heard : ℕ → ℕ
byte_heard byte = choose (byte == 0) 0 1

-- what a bit costs in the mark's pass
unfoldable pub agreeing : ℕ → ℕ → ℕ → ℕ
agreeing byte own bit = 2 * byte_cost byte bit + choose (bit == own) (byte_heard byte) 0

-- what the two coded bits of a step cost, each being 0 and 1
pub record Costs (x y : ℕ → ℕ) (x0 x1 y0 y1 : ℕ) : Type 0 where
  pub x_0 : x0 ≡ x 0
  pub x_1 : x1 ≡ x 1
  pub y_0 : y0 ≡ y 0
  pub y_1 : y1 ≡ y 1
  pub small : Small x0 x1 y0 y1

-- what coded bit m costs
unfoldable pub cost_of : List ℕ → ℕ → ℕ → ℕ
cost_of heard m bit = byte_cost (slice_index heard m) bit

-- whether coded bit m was heard
unfoldable pub heard_of : List ℕ → ℕ → ℕ
heard_of heard m = byte_heard (slice_index heard m)
