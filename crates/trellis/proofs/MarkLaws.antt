-- The mark: a second pass, with 1 added where a heard bit agrees with that of the train w, is clear on the way of w exactly where w is
-- confirmed. Assumes nothing.
use mathlib.Core.Path.{◌≡◌, refl, sym}
use mathlib.Core.Bool.{Bool, true, false}
use mathlib.Core.List.{List}
use Prim.Native.Nat.{ℕ, ◌+◌, ◌*◌, ◌≤◌, ◌<◌}
use native.Mathlib.Omega.{arith}
use lib.Dec.{eqb}
use borrow.Author.Tests.{eqb-true, eqb-false, eq-eqb, ne_eqb}
use Rattle.laws.specs.Lists.{choose}
use Rattle.laws.specs.Sums.{total}
use Rattle.laws.proofs.SumLaws.{total_none, total_both}
use Rattle.coder.specs.Encoder.{tailed, coded}
use Rattle.coder.specs.Train.{Train}
use Rattle.trellis.specs.Heard.{train_cost, differing, branch, mark_cost}
use Rattle.trellis.specs.Partial.{partial_cost}
use Rattle.trellis.specs.Passes.{Clear}
use Rattle.trellis.specs.Wanted.{Confirmed}
use Rattle.trellis.proofs.WayLaws.{cost_partial}
use Rattle.trellis.proofs.ClearLaws.{only_clear, clear_below}

-- a heard bit agrees or differs
agrees : (x y h : ℕ) → choose (eqb y x) h 0 + choose (eqb x y) 0 h ≡ h
agrees x y h = go (eqb x y) refl
  where
    go : (e : Bool) → eqb x y ≡ e → choose (eqb y x) h 0 + choose e 0 h ≡ h
    go true e = rw (eq-eqb y x (sym (eqb-true x y e))) (omega arith)
    go false e = rw (ne_eqb y x (λ r. eqb-false x y e (sym r))) (omega arith)

module _ (c : ℕ → ℕ → ℕ) (heard : ℕ → ℕ) (N : ℕ) (w : List ℕ) where
  -- the second pass counts the heard bits that agree
  mark_sum : (v : List ℕ) → train_cost (mark_cost c heard w) N v + differing heard N w v ≡ 2 * train_cost c N v + total (2 * (N + 6)) heard
  unfolding train_cost mark_cost differing
  mark_sum v = total_both (2 * (N + 6)) _ _ _ heard (λ m h. omega (arith, agrees (coded (tailed w) m) (coded (tailed v) m) (heard m)))

  -- by its steps too
  mark_cost_lem : (v : List ℕ) → Train N v
      → partial_cost (branch (mark_cost c heard w)) (tailed v) (N + 6) + differing heard N w v ≡ 2 * train_cost c N v + total (2 * (N + 6)) heard
  mark_cost_lem v train = rw (cost_partial (mark_cost c heard w) N v train) at (mark_sum v)

  differing_none : differing heard N w w ≡ 0
  unfolding differing
  differing_none = total_none (2 * (N + 6)) _ (λ m h. rw (eq-eqb (coded (tailed w) m) (coded (tailed w) m) refl))

  -- the mark says confirmed only of what is confirmed
  pub clear_confirmed : (P : ℕ) → Train N w
      → Clear (branch (mark_cost c heard w)) P (tailed w) (N + 6) → Confirmed N (train_cost c N) (differing heard N) w
  unfolding Confirmed
  clear_confirmed P train clear v train' apart =
      let below = clear_below (branch (mark_cost c heard w)) P train clear v train' apart in
      omega (arith, below, mark_cost_lem w train, mark_cost_lem v train', differing_none)

  -- and of all that is
  pub confirmed_clear : (P M : ℕ) → ((t r : ℕ) → branch (mark_cost c heard w) t r ≤ M) → 6 * M < P → Train N w
      → Confirmed N (train_cost c N) (differing heard N) w → Clear (branch (mark_cost c heard w)) P (tailed w) (N + 6)
  unfolding Confirmed
  confirmed_clear P M most far train sure =
      only_clear (branch (mark_cost c heard w)) P M most far train
      (λ v train' apart. omega (arith, sure v train' apart, mark_cost_lem w train, mark_cost_lem v train', differing_none))
