-- The search, step by step. A state is the six newest bits of the register, the newest the highest; a way into state s has the
-- register 2 s + d, d its oldest bit, and comes from the state that is left when the newest bit is taken off. A branch cost b is
-- a function of step and register; every state may be started in, state 0 at cost 0 and the others at cost P.
--   via, before  the register on the way into a state, and the state before
--   candidate    the cost of the way into state s with oldest bit d
--   decision     the oldest bit of the cheaper way; of equals, 0
--   best         the least cost of a way into state s in t steps
--   choice       the decision at step t
--   survivor     the oldest bits on that way, the last step's first
--   decoded      the train of N bits on the way into state 0 in N + 6 steps
--   Clear        on the way of the inputs w, n steps long, the other way into its state is strictly above at every step
-- Assumes nothing.
use Rattle.std.specs.Prelude.{List, [], ◌∷◌, ℕ, zero, suc, ◌+◌, ◌-◌, ◌*◌, ◌/◌, ◌%◌, ◌<◌, eqb, ltb, get_or}
use Rattle.laws.specs.Lists.{choose, tabulate}
use Rattle.coder.specs.Register.{register}

-- the register on the way into state s with oldest bit d
abbrev pub via : ℕ → ℕ → ℕ
via s d = 2 * s + d

-- the state before
abbrev pub before : ℕ → ℕ → ℕ
before s d = via s d % 64

-- the cost of the way into state s with oldest bit d, from the costs of the states before and of the registers
unfoldable pub candidate : (ℕ → ℕ) → (ℕ → ℕ) → ℕ → ℕ → ℕ
candidate old b s d = old (before s d) + b (via s d)

-- the oldest bit of the cheaper way; of equals, 0
unfoldable pub decision : (ℕ → ℕ) → (ℕ → ℕ) → ℕ → ℕ
decision old b s = choose (ltb (candidate old b s 1) (candidate old b s 0)) 1 0

-- the least cost of a way into state s in t steps
unfoldable pub best : (ℕ → ℕ → ℕ) → ℕ → ℕ → ℕ → ℕ
best b P zero s = choose (eqb s 0) 0 P
best b P (suc t) s = candidate (best b P t) (b t) s (decision (best b P t) (b t) s)

-- the decision at step t
unfoldable pub choice : (ℕ → ℕ → ℕ) → ℕ → ℕ → ℕ → ℕ
choice b P t s = decision (best b P t) (b t) s

-- the oldest bits on the cheapest way into state s in t steps, the last step's first
unfoldable pub survivor : (ℕ → ℕ → ℕ) → ℕ → ℕ → ℕ → List ℕ
survivor b P zero s = []
survivor b P (suc t) s = choice b P t s ∷ survivor b P t (before s (choice b P t s))

-- input k leaves the register six steps later: the train of N bits on the cheapest way into state 0 in N + 6 steps
unfoldable pub decoded : (ℕ → ℕ → ℕ) → ℕ → ℕ → List ℕ
decoded b P N = tabulate N (λ k. get_or (survivor b P (N + 6) 0) (N - 1 - k) 0)

-- on the way of the inputs w, the other way into its state is strictly above at each of n steps
unfoldable pub Clear : (ℕ → ℕ → ℕ) → ℕ → List ℕ → ℕ → Type 0
Clear b P w n = (t : ℕ) → t < n
    → candidate (best b P t) (b t) (register w (suc t) / 2) (register w (suc t) % 2)
    < candidate (best b P t) (b t) (register w (suc t) / 2) (1 - register w (suc t) % 2)
