-- How many comparisons of two partial trains a search for a train of N bits takes.
--   Meet         partial trains with different oldest bits lead into state s at step t
--   Number       how many pairs of numbers below two bounds something holds of
--   Comparisons  the number of pairs (step, state) into which partial trains with different oldest bits lead
-- Assumes nothing.
use Rattle.std.specs.Prelude.{◌≡◌, Bool, true, ◌≢◌, List, ℕ, suc, ◌+◌, ◌<◌}
use Rattle.laws.specs.Lists.{choose}
use Rattle.laws.specs.Sums.{total}
use Rattle.coder.specs.Encoder.{tailed, lag}
use Rattle.trellis.specs.Partial.{Leads}

-- two partial trains of N bits lead into state s at step t, which is when t + 1 inputs have come; the oldest bit is the one at lag 6
pub record Meet (N t s : ℕ) : Type 0 where
  pub one : List ℕ
  pub other : List ℕ
  pub one_leads : Leads N (suc t) s one
  pub other_leads : Leads N (suc t) s other
  pub differ : lag (tailed one) t 6 ≢ lag (tailed other) t 6

-- k is the number of pairs (t, s), t below T and s below S, of which P holds: a test that finds these and no others finds k
pub record Number (T S : ℕ) (P : ℕ → ℕ → Type 0) (k : ℕ) : Type 0 where
  pub test : ℕ → ℕ → Bool
  pub only_then : (t s : ℕ) → t < T → s < S → test t s ≡ true → P t s
  pub always_then : (t s : ℕ) → t < T → s < S → P t s → test t s ≡ true
  pub found : k ≡ total T (λ t. total S (λ s. choose (test t s) 1 0))

-- of the N + 6 steps and the 64 states
abbrev pub Comparisons : ℕ → ℕ → Type 0
Comparisons N k = Number (N + 6) 64 (Meet N) k
