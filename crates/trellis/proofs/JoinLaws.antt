-- Partial trains: a way from state 0 into a state on a train's way is the beginning of a train that goes on as that train does.
-- Assumes nothing.
use mathlib.Core.Path.{◌≡◌, refl, sym, ap, ap₂, ◌∙◌}
use mathlib.Core.Bool.{Bool, true, false}
use mathlib.Core.List.{List}
use Prim.Native.Nat.{ℕ, zero, suc, ◌+◌, ◌-◌, ◌*◌, ◌/◌, ◌%◌, ◌^◌, ◌≤◌, ◌<◌}
use native.Mathlib.Nat.{add-zero, add-suc}
use native.Mathlib.Omega.{arith}
use lib.Dec.{ltb}
use lib.ListN.{length, get_or}
use borrow.Author.Tests.{ltb-true, ltb-false, lt-ltb, le-ltb}
use Rattle.laws.specs.Lists.{choose, tabulate}
use Rattle.laws.specs.Sums.{total}
use Rattle.laws.proofs.PackingLaws.{packed_bit}
use Rattle.coder.specs.Encoder.{tailed, lag}
use Rattle.coder.specs.Register.{register}
use Rattle.coder.specs.Train.{Train}
use Rattle.coder.proofs.EncoderLaws.{Bits, lag_back, lag_bit, register_same}
use Rattle.coder.proofs.TrainLaws.{tailed_after, tailed_bits, tabulate_train, tailed_tabulate}
use Rattle.trellis.specs.Partial.{state, partial_cost}
use Rattle.trellis.proofs.PathLaws.{along, origin}
use Rattle.trellis.proofs.TrackLaws.{leaving, entering, state_low, state_packed, along_leaving, leaving_same, entering_bits, entering_state, entering_leaving}

-- a state tells the last six inputs
lag_state : (w : List ℕ) → Bits w → (t j : ℕ) → j < 6 → lag w t j ≡ state w (suc t) / 2 ^ (5 - j) % 2
lag_state w bits t j h =
    let back : 5 - (5 - j) ≡ j = omega arith in
    rw (state_packed w bits t, packed_bit 6 (λ i. lag w t (5 - i)) (λ i. lag_bit w bits t (5 - i)) (5 - j) (omega arith), back)

module _ (w v : List ℕ) (bits : Bits w) (bits' : Bits v) where
  -- where the states agree, the last six inputs do
  inputs_same : (n k : ℕ) → state w n ≡ state v n → k < n → n ≤ k + 6 → get_or w k 0 ≡ get_or v k 0
  inputs_same zero k e h near = absurd (omega arith)
  inputs_same (suc t) k e h near =
      sym (lag_back w k (t - k) t (omega arith))
      ∙ lag_state w bits t (t - k) (omega arith)
      ∙ ap (λ s. s / 2 ^ (5 - (t - k)) % 2) e
      ∙ sym (lag_state v bits' t (t - k) (omega arith))
      ∙ lag_back v k (t - k) t (omega arith)

module _ (w v : List ℕ) where
  register_next : (n : ℕ) → state w n ≡ state v n → get_or w n 0 ≡ get_or v n 0 → register w (suc n) ≡ register v (suc n)
  unfolding register
  register_next n e x = ap₂ (λ s y. s + 64 * y) e x

  module _ (n : ℕ) (e : state w n ≡ state v n) (after : (k : ℕ) → n ≤ k → get_or w k 0 ≡ get_or v k 0) where
    -- from equal states equal inputs lead to equal states
    states_later : (m : ℕ) → state w (n + m) ≡ state v (n + m)
    states_later zero = rw add-zero e
    states_later (suc m) = rw add-suc (ap (λ r. r / 2) (register_next (n + m) (states_later m) (after (n + m) (omega arith))))

    -- at equal costs
    pub costs_later : (b : ℕ → ℕ → ℕ) (m : ℕ) → partial_cost b w (n + m) + partial_cost b v n ≡ partial_cost b v (n + m) + partial_cost b w n
    unfolding partial_cost total
    costs_later b zero = rw add-zero (omega arith)
    costs_later b (suc m) =
        rw (add-suc n m, register_next (n + m) (states_later m) (after (n + m) (omega arith)))
        (omega (arith, costs_later b m))

-- a train whose first n oldest bits are ds, and that then goes on as w does
pub record Joined (N n : ℕ) (w ds : List ℕ) : Type 0 where
  pub inputs : List ℕ
  pub train : Train N inputs
  pub there : state (tailed inputs) n ≡ state (tailed w) n
  pub way : leaving (tailed inputs) n ≡ ds
  pub after : (k : ℕ) → n ≤ k → get_or (tailed inputs) k 0 ≡ get_or (tailed w) k 0

module _ {N n : ℕ} {w : List ℕ} (train : Train N w) (within : n ≤ N + 6) (ds : List ℕ) (bits : Bits ds) (long : length ds ≡ n)
    (home : origin (state (tailed w) n) ds ≡ 0) where
  low : state (tailed w) n < 64
  low = state_low (tailed w) (tailed_bits train) n

  abbrev first : List ℕ
  first = entering (state (tailed w) n) ds

  first_bits : Bits first
  first_bits = entering_bits (state (tailed w) n) ds low

  first_there : state first n ≡ state (tailed w) n
  first_there = rw long at (entering_state (state (tailed w) n) ds low bits home)

  -- the inputs of that way, and then those of w
  abbrev entry : ℕ → ℕ
  entry k = choose (ltb k n) (get_or first k 0) (get_or (tailed w) k 0)

  entry_bit : (k : ℕ) → entry k < 2
  entry_bit k = go (ltb k n)
    where
      go : (x : Bool) → choose x (get_or first k 0) (get_or (tailed w) k 0) < 2
      go true = first_bits k
      go false = tailed_bits train k

  -- zero where the tail is
  entry_zero : (k : ℕ) → N ≤ k → entry k ≡ 0
  entry_zero k h = go (ltb k n) refl
    where
      none : get_or (tailed w) k 0 ≡ 0
      none = tailed_after w k (omega (arith, train.count))

      go : (x : Bool) → ltb k n ≡ x → choose x (get_or first k 0) (get_or (tailed w) k 0) ≡ 0
      go true e = inputs_same first (tailed w) first_bits (tailed_bits train) n k first_there (ltb-true k n e) (omega arith) ∙ none
      go false e = none

  abbrev whole : List ℕ
  whole = tabulate N entry

  whole_at : (k : ℕ) → get_or (tailed whole) k 0 ≡ entry k
  whole_at k = tailed_tabulate N entry k ∙ go (ltb k N) refl
    where
      go : (x : Bool) → ltb k N ≡ x → choose x (entry k) 0 ≡ entry k
      go true e = refl
      go false e = sym (entry_zero k (ltb-false k N e))

  whole_first : (k : ℕ) → k < n → get_or (tailed whole) k 0 ≡ get_or first k 0
  whole_first k h = whole_at k ∙ rw (lt-ltb k n h)

  -- a way from state 0 into a state of w's is the beginning of a train that goes on as w does
  pub joined : Joined N n w ds
  joined = record {
    inputs = whole;
    train = tabulate_train N entry entry_bit;
    there = ap (λ r. r / 2) (register_same (tailed whole) first n whole_first) ∙ first_there;
    way = leaving_same (tailed whole) first n whole_first ∙ rw long at (entering_leaving (state (tailed w) n) ds low bits home);
    after = λ k h. whole_at k ∙ rw (le-ltb k n h);
  }

pub joined_cost : (b : ℕ → ℕ → ℕ) (P : ℕ) {N n : ℕ} {w ds : List ℕ} (j : Joined N n w ds)
    → partial_cost b (tailed j.inputs) n ≡ along b P (state (tailed w) n) ds
joined_cost b P {N} {n} {w} {ds} j = sym (along_leaving b P (tailed j.inputs) (tailed_bits j.train) n) ∙ rw (j.there, j.way)
