-- Partial trains: the beginnings of trains of N bits with their six zeros.
--   state         the state when t inputs have come
--   partial_cost  what the first t steps of the inputs w cost
--   Leads         the train w of N bits leads into state s in t steps
-- Assumes nothing.
use Rattle.std.specs.Prelude.{◌≡◌, List, ℕ, suc, ◌+◌, ◌/◌, ◌≤◌}
use Rattle.laws.specs.Sums.{total}
use Rattle.coder.specs.Encoder.{tailed}
use Rattle.coder.specs.Register.{register}
use Rattle.coder.specs.Train.{Train}

-- the state when t of the inputs w have come
abbrev pub state : List ℕ → ℕ → ℕ
state w t = register w t / 2

-- what the first t steps of the inputs w cost
unfoldable pub partial_cost : (ℕ → ℕ → ℕ) → List ℕ → ℕ → ℕ
partial_cost b w t = total t (λ k. b k (register w (suc k)))

-- the beginning, t steps long, of the train w of N bits leads into state s
pub record Leads (N t s : ℕ) (w : List ℕ) : Type 0 where
  pub train : Train N w
  pub within : t ≤ N + 6
  pub there : state (tailed w) t ≡ s
