-- A train's way: the oldest bits on the way of its bits and its six zeros, from state 0 back to state 0, tell the train.
-- Assumes nothing.
use mathlib.Core.Path.{◌≡◌, refl, sym, ap, ◌∙◌}
use mathlib.Core.Bool.{Bool, true, false}
use mathlib.Core.List.{List}
use Prim.Native.Nat.{ℕ, suc, ◌+◌, ◌-◌, ◌≤◌, ◌<◌}
use native.Mathlib.Omega.{arith}
use lib.Dec.{ltb}
use lib.ListN.{length, get_or, get_or-eq_default}
use lib.Seq.{ext_get_or}
use borrow.Author.Tests.{ltb-true, ltb-false}
use Rattle.laws.specs.Lists.{tabulate}
use Rattle.laws.specs.Packing.{packed}
use Rattle.laws.proofs.ListLaws.{tabulate_length, tabulate_at}
use Rattle.laws.proofs.PackingLaws.{packed_ext}
use Rattle.laws.proofs.SumLaws.{total_pairs, total_ext}
use Rattle.coder.specs.Encoder.{tailed, coded, lag}
use Rattle.coder.specs.Train.{Train}
use Rattle.coder.proofs.EncoderLaws.{lag_back, lag_none, coded_x, coded_y}
use Rattle.coder.proofs.TrainLaws.{tailed_before, tailed_after, tailed_bits}
use Rattle.trellis.specs.Heard.{train_cost, branch}
use Rattle.trellis.specs.Partial.{state, partial_cost}
use Rattle.trellis.specs.Wanted.{Ahead}
use Rattle.trellis.proofs.PathLaws.{First}
use Rattle.trellis.proofs.TrackLaws.{leaving, leaving_length, leaving_at, state_packed}

-- a train costs what its steps cost
pub cost_partial : (c : ℕ → ℕ → ℕ) (N : ℕ) (w : List ℕ) → Train N w → train_cost c N w ≡ partial_cost (branch c) (tailed w) (N + 6)
unfolding train_cost partial_cost branch
cost_partial c N w train =
    let bits = tailed_bits train in
    total_pairs (N + 6) (λ m. c m (coded (tailed w) m))
    ∙ total_ext (N + 6) _ _ (λ t h. rw (coded_x (tailed w) bits t, coded_y (tailed w) bits t))

-- the six zeros lead home
pub tailed_home : {N : ℕ} {v : List ℕ} → Train N v → state (tailed v) (N + 6) ≡ 0
unfolding packed
tailed_home {N} {v} train =
    let e : N + 6 ≡ suc (N + 5) = omega arith in
    rw e (state_packed (tailed v) (tailed_bits train) (N + 5) ∙ packed_ext 6 _ (λ i. 0) none)
  where
    none : (i : ℕ) → i < 6 → lag (tailed v) (N + 5) (5 - i) ≡ 0
    none i h = lag_back (tailed v) (N + i) (5 - i) (N + 5) (omega arith) ∙ tailed_after v (N + i) (omega (arith, train.count))

-- the train of N bits on a way with the oldest bits ds
abbrev pub train_on : ℕ → List ℕ → List ℕ
train_on N ds = tabulate N (λ k. get_or ds (N - 1 - k) 0)

module _ {N : ℕ} {v : List ℕ} (train : Train N v) where
  -- bit k of a train leaves the register six steps later
  pub leaving_train : (k : ℕ) → k < N → get_or (leaving (tailed v) (N + 6)) (N - 1 - k) 0 ≡ get_or v k 0
  leaving_train k h =
      leaving_at (tailed v) (tailed_bits train) (N + 6) (N - 1 - k) (omega arith)
      ∙ lag_back (tailed v) k 6 (N + 6 - 1 - (N - 1 - k)) (omega arith)
      ∙ tailed_before v k (omega (arith, train.count))

  -- so the way tells the train
  pub train_on_leaving : train_on N (leaving (tailed v) (N + 6)) ≡ v
  train_on_leaving = ext_get_or 0 (train_on N (leaving (tailed v) (N + 6))) v (tabulate_length N _ ∙ sym train.count) at
    where
      at : (k : ℕ) → k < length (train_on N (leaving (tailed v) (N + 6))) → get_or (train_on N (leaving (tailed v) (N + 6))) k 0 ≡ get_or v k 0
      at k h =
          let low : k < N = rw tabulate_length at h in
          tabulate_at N _ k 0 low ∙ leaving_train k low

  -- what leaves before that is zeros
  leaving_none : (p : ℕ) → N ≤ p → get_or (leaving (tailed v) (N + 6)) p 0 ≡ 0
  leaving_none p h = go (ltb p (N + 6)) refl
    where
      go : (x : Bool) → ltb p (N + 6) ≡ x → get_or (leaving (tailed v) (N + 6)) p 0 ≡ 0
      go true e =
          let low : p < N + 6 = ltb-true p (N + 6) e in
          leaving_at (tailed v) (tailed_bits train) (N + 6) p low
          ∙ lag_none (tailed v) (N + 6 - 1 - p) 6 (omega arith)
      go false e = get_or-eq_default (leaving (tailed v) (N + 6)) 0 {n = p} (rw (leaving_length (tailed v) (N + 6)) (ltb-false p (N + 6) e))

module _ {N : ℕ} {w v : List ℕ} (train_w : Train N w) (train_v : Train N v) where
  -- trains with the same way are the same
  pub leaving_known : leaving (tailed v) (N + 6) ≡ leaving (tailed w) (N + 6) → v ≡ w
  leaving_known same = sym (train_on_leaving train_v) ∙ ap (train_on N) same ∙ train_on_leaving train_w

  -- the first place where the ways differ is the last where the trains differ
  pub first_ahead : First (leaving (tailed w) (N + 6)) (leaving (tailed v) (N + 6)) → Ahead w v
  first_ahead f = record {
    place = N - 1 - f.place;
    has_0 = sym (leaving_train train_w (N - 1 - f.place) (omega (arith, low))) ∙ rw back f.has_0;
    has_1 = sym (leaving_train train_v (N - 1 - f.place) (omega (arith, low))) ∙ rw back f.has_1;
    last = λ t h. later t h (ltb t N) refl;
  }
    where
      low : f.place < N
      low = go (ltb f.place N) refl
        where
          go : (x : Bool) → ltb f.place N ≡ x → f.place < N
          go true e = ltb-true f.place N e
          go false e = absurd (omega (arith, f.has_1, leaving_none train_v f.place (ltb-false f.place N e)))

      back : N - 1 - (N - 1 - f.place) ≡ f.place
      back = omega (arith, low)

      later : (t : ℕ) → N - 1 - f.place < t → (x : Bool) → ltb t N ≡ x → get_or w t 0 ≡ get_or v t 0
      later t h true e =
          let inside : t < N = ltb-true t N e in
          sym (leaving_train train_w t inside) ∙ f.alike (N - 1 - t) (omega (arith, low)) ∙ leaving_train train_v t inside
      later t h false e =
          let behind : N ≤ t = ltb-false t N e in
          get_or-eq_default w 0 {n = t} (omega (arith, train_w.count)) ∙ sym (get_or-eq_default v 0 {n = t} (omega (arith, train_v.count)))
