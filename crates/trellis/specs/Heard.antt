-- The cost of a train, where each coded bit has costs of its own. Coded bit 2 t is X of step t, and 2 t + 1 its Y.
--   train_cost  c m b is what coded bit m costs if it is b, 0 where it is not heard; a train costs the sum over its coded bits
--   differing   heard m is 1 where coded bit m is heard, else 0: the number of heard bits in which two trains differ
--   branch      what the two coded bits of step t cost if the register then is r
--   mark_cost   the costs of the second pass: twice the cost, and 1 where a heard bit agrees with that of the train w
-- Assumes nothing.
use Rattle.std.specs.Prelude.{List, ℕ, ◌+◌, ◌*◌, eqb}
use Rattle.laws.specs.Lists.{choose}
use Rattle.laws.specs.Sums.{total}
use Rattle.coder.specs.Encoder.{tailed, coded}
use Rattle.coder.specs.Register.{parity, mask_x, mask_y}

-- the sum over the coded bits of N inputs and six zeros
unfoldable pub train_cost : (ℕ → ℕ → ℕ) → ℕ → List ℕ → ℕ
train_cost c N w = total (2 * (N + 6)) (λ m. c m (coded (tailed w) m))

-- the number of heard bits in which two trains differ
unfoldable pub differing : (ℕ → ℕ) → ℕ → List ℕ → List ℕ → ℕ
differing heard N w v = total (2 * (N + 6)) (λ m. choose (eqb (coded (tailed w) m) (coded (tailed v) m)) 0 (heard m))

-- what the two coded bits of step t cost if the register then is r
unfoldable pub branch : (ℕ → ℕ → ℕ) → ℕ → ℕ → ℕ
branch c t r = c (2 * t) (parity r mask_x) + c (2 * t + 1) (parity r mask_y)

-- the costs of the second pass
unfoldable pub mark_cost : (ℕ → ℕ → ℕ) → (ℕ → ℕ) → List ℕ → ℕ → ℕ → ℕ
mark_cost c heard w m b = 2 * c m b + choose (eqb b (coded (tailed w) m)) (heard m) 0
