-- How far apart the path costs lie, and that their stored numbers are in order. A state is reached in t steps where some partial train
-- of N bits leads into it.
--   SoftBytes      every byte is a soft byte of -80 to 80 counted from -128, or 0 where its bit was not heard
--   search_spread  two reached states lie less than this apart in the search
--   mark_spread    and less than this in the mark's pass, where a bit costs up to 161
--   Least          c is the least cost of the partial trains of N bits that lead into state s in t steps
--   InOrder        what is stored of the reached states after t steps: costs less than a bound apart, and of any two ways on, over
--                  branch costs of at most M, the wrapped difference tells which is less
-- Assumes nothing.
use Rattle.std.specs.Prelude.{◌≡◌, ℕ, ◌+◌, ◌<◌, ◌≤◌, ◌⊎◌, List, nat_lt, slice_index}
use Rattle.laws.specs.Lists.{choose}
use Rattle.coder.specs.Encoder.{tailed}
use Rattle.trellis.specs.Partial.{partial_cost, Leads}
use Rattle.search.specs.Stored.{wrapped, gap, top}

-- soft bytes of -80 to 80 counted from -128, and 0 where a bit was not heard
abbrev pub SoftBytes : List ℕ → Type 0
SoftBytes heard = (m : ℕ) → (slice_index heard m ≡ 0) ⊎ ((48 ≤ slice_index heard m) × (slice_index heard m ≤ 208))

-- in the search
abbrev pub search_spread : ℕ
search_spread = 1024

-- in the mark's pass
abbrev pub mark_spread : ℕ
mark_spread = 2048

-- the least cost of the partial trains of N bits that lead into state s in t steps
pub record Least (b : ℕ → ℕ → ℕ) (N t s c : ℕ) : Type 0 where
  pub inputs : List ℕ
  pub leads : Leads N t s inputs
  pub cost : partial_cost b (tailed inputs) t ≡ c
  pub least : (w : List ℕ) → Leads N t s w → c ≤ partial_cost b (tailed w) t

-- what is stored of the states that are reached in t steps
pub record InOrder (b : ℕ → ℕ → ℕ) (M bound N t : ℕ) (costs : List ℕ) : Type 0 where
  pub stored : (s c : ℕ) → Least b N t s c → slice_index costs s ≡ wrapped c
  pub apart : (s s' c c' : ℕ) → Least b N t s c → Least b N t s' c' → c < c' + bound
  pub told : (s s' c c' x x' : ℕ) → Least b N t s c → Least b N t s' c' → x ≤ M → x' ≤ M
      → top (gap (wrapped (slice_index costs s + x)) (wrapped (slice_index costs s' + x'))) ≡ choose (nat_lt (c' + x') (c + x)) 1 0
