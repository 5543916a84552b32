-- The decoder returns the train that is wanted: of all trains of N bits the one of least cost; of equals, the one ahead.
-- Assumes nothing.
use mathlib.Core.Path.{◌≡◌, refl, sym, ap, ◌∙◌}
use mathlib.Core.Logic.{◌≢◌, ◌⊎◌, inl, inr}
use mathlib.Core.Bool.{Bool, true, false}
use mathlib.Core.List.{List}
use Prim.Native.Nat.{ℕ, zero, suc, ◌+◌, ◌-◌, ◌*◌, ◌≤◌, ◌<◌}
use native.Mathlib.Omega.{arith}
use lib.Dec.{eqb, ltb}
use lib.ListN.{length}
use borrow.Author.Tests.{eqb-true, eqb-false, ltb-true, ltb-false}
use Rattle.coder.specs.Encoder.{tailed}
use Rattle.coder.specs.Train.{Train}
use Rattle.coder.proofs.TrainLaws.{tailed_bits, tabulate_train}
use Rattle.trellis.specs.Heard.{train_cost, branch}
use Rattle.trellis.specs.Partial.{state}
use Rattle.trellis.specs.Passes.{before, best, choice, survivor, decoded}
use Rattle.trellis.specs.Wanted.{Ahead, Returned}
use Rattle.trellis.proofs.PathLaws.{along, origin, First, survivor_length, survivor_bits, survivor_cost, survivor_first, started}
use Rattle.trellis.proofs.TrackLaws.{leaving, leaving_length, leaving_bits, along_leaving, best_inputs}
use Rattle.trellis.proofs.SpreadLaws.{six_steps, best_most}
use Rattle.trellis.proofs.WayLaws.{cost_partial, tailed_home, train_on, train_on_leaving, leaving_known, first_ahead}
use Rattle.trellis.proofs.JoinLaws.{Joined, joined}

-- what is decoded is a train of N bits
pub decoded_train : (b : ℕ → ℕ → ℕ) (P N : ℕ) → Train N (decoded b P N)
unfolding decoded
decoded_train b P N = tabulate_train N _ (λ k. survivor_bits b P (N + 6) 0 (N - 1 - k))

-- no branch costs more than M, and six of them less than P
module _ (b : ℕ → ℕ → ℕ) (P M : ℕ) (most : (t r : ℕ) → b t r ≤ M) (far : 6 * M < P) where
  -- six steps lead from state 0 into every state
  pub best_six : (s : ℕ) → s < 64 → best b P 6 s ≤ 6 * M
  best_six s h = omega (arith, six_steps b P M most 0 0 s (omega arith) h, best_most b P M most 0)

  -- a survivor that costs less than P started in state 0
  pub cheap_origin : (t s : ℕ) → best b P t s < P → origin s (survivor b P t s) ≡ 0
  cheap_origin t s cheap = go (eqb (origin s (survivor b P t s)) 0) refl
    where
      go : (x : Bool) → eqb (origin s (survivor b P t s)) 0 ≡ x → origin s (survivor b P t s) ≡ 0
      go true e = eqb-true _ _ e
      go false e = absurd (omega (arith, survivor_cost b P t s, started b P s (survivor b P t s) (eqb-false _ _ e)))

  -- from the sixth step on every survivor started in state 0
  pub survivor_origin : (t s : ℕ) → 6 ≤ t → s < 64 → origin s (survivor b P t s) ≡ 0
  survivor_origin zero s long h = absurd (omega arith)
  survivor_origin (suc t) s long h = go (survivor_origin t (before s (choice b P t s))) (ltb t 6) refl
    where
      go : (6 ≤ t → before s (choice b P t s) < 64 → origin (before s (choice b P t s)) (survivor b P t (before s (choice b P t s))) ≡ 0)
          → (x : Bool) → ltb t 6 ≡ x → origin s (survivor b P (suc t) s) ≡ 0
      go earlier true e =
          let six : suc t ≡ 6 = omega (arith, ltb-true t 6 e) in
          cheap_origin (suc t) s (rw six (omega (arith, best_six s h)))
      go earlier false e = unfold survivor origin in earlier (ltb-false t 6 e) (omega arith)

  -- the survivor into state 0 is the way of the decoded train
  pub decoded_leaving : (N : ℕ) → leaving (tailed (decoded b P N)) (N + 6) ≡ survivor b P (N + 6) 0
  decoded_leaving N = go (joined train (omega arith) way (survivor_bits b P (N + 6) 0) (survivor_length b P (N + 6) 0) home)
    where
      way : List ℕ
      way = survivor b P (N + 6) 0

      train : Train N (decoded b P N)
      train = decoded_train b P N

      home : origin (state (tailed (decoded b P N)) (N + 6)) way ≡ 0
      home = rw (tailed_home train) (survivor_origin (N + 6) 0 (omega arith) (omega arith))

      go : Joined N (N + 6) (decoded b P N) way → leaving (tailed (decoded b P N)) (N + 6) ≡ way
      go j =
          let same : j.inputs ≡ decoded b P N = sym (train_on_leaving j.train) ∙ unfold decoded in ap (train_on N) j.way in
          rw same at j.way

-- the same of a train's costs: no step costs more than M, and six of them less than P
module _ (c : ℕ → ℕ → ℕ) (P M : ℕ) (most : (t r : ℕ) → branch c t r ≤ M) (far : 6 * M < P) (N : ℕ) where
  -- a train's cost is that of its way into state 0
  cost_along : {v : List ℕ} → Train N v → along (branch c) P 0 (leaving (tailed v) (N + 6)) ≡ train_cost c N v
  cost_along {v} train =
      rw (tailed_home train) at (along_leaving (branch c) P (tailed v) (tailed_bits train) (N + 6)) ∙ sym (cost_partial c N v train)

  -- the decoded train costs what the best way into state 0 does
  pub decoded_cost : train_cost c N (decoded (branch c) P N) ≡ best (branch c) P (N + 6) 0
  decoded_cost =
      rw (decoded_leaving (branch c) P M most far N) at (sym (cost_along (decoded_train (branch c) P N)))
      ∙ survivor_cost (branch c) P (N + 6) 0

  -- and is the train that is wanted
  pub decoded_returned : Returned N (train_cost c N) (decoded (branch c) P N)
  decoded_returned = record { train = train_w; least = least; ahead = λ v train apart same. won v train apart (either v train same) }
    where
      w : List ℕ
      w = decoded (branch c) P N

      train_w : Train N w
      train_w = decoded_train (branch c) P N

      way : List ℕ → List ℕ
      way v = leaving (tailed v) (N + 6)

      least : (v : List ℕ) → Train N v → train_cost c N w ≤ train_cost c N v
      least v train =
          rw (decoded_cost, cost_partial c N v train)
          (rw (tailed_home train) at (best_inputs (branch c) P (tailed v) (tailed_bits train) (N + 6)))

      either : (v : List ℕ) → Train N v → train_cost c N v ≡ train_cost c N w → (way v ≡ way w) ⊎ First (way w) (way v)
      either v train same =
          let long : length (way v) ≡ N + 6 = leaving_length (tailed v) (N + 6) in
          rw (long, ← decoded_leaving (branch c) P M most far N)
          at (survivor_first (branch c) P 0 (way v) (leaving_bits (tailed v) (N + 6)) (rw long (cost_along train ∙ same ∙ decoded_cost)))

      won : (v : List ℕ) → Train N v → v ≢ w → (way v ≡ way w) ⊎ First (way w) (way v) → Ahead w v
      won v train apart (inl e) = absurd (apart (leaving_known train_w train e))
      won v train apart (inr f) = first_ahead train_w train f
