-- Sent bits of a scrambled train, and sums over them, for any selection f of its coded bits that sends n of them.
--   sent_by       sent bit q
--   cost_by       what a train costs, by a number for each sent bit
--   differing_by  the number of sent bits in which two trains differ
-- Assumes nothing.
use Rattle.std.specs.Prelude.{ℕ, List, eqb, ℤ}
use Rattle.laws.specs.Lists.{choose}
use Rattle.laws.specs.Sums.{total}
use Rattle.coder.specs.Encoder.{tailed, coded}
use Rattle.places.specs.Selection.{Selection, origin}
use Rattle.soft.specs.Soft.{bit_cost}

-- sent bit q of a scrambled train: tailed and coded, the coded bit that is sent there
unfoldable pub sent_by : Selection → List ℕ → ℕ → ℕ
sent_by f w q = coded (tailed w) (origin f q)

-- the sum over the n sent bits of what each costs, by a number for each
unfoldable pub cost_by : Selection → ℕ → (ℕ → ℤ) → List ℕ → ℕ
cost_by f n s w = total n (λ q. bit_cost (s q) (sent_by f w q))

-- the number of sent bits in which two trains differ
unfoldable pub differing_by : Selection → ℕ → (w v : List ℕ) → ℕ
differing_by f n w v = total n (λ q. choose (eqb (sent_by f w q) (sent_by f v q)) 0 1)
