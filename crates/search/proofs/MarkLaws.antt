-- The second pass: after t steps the stored costs are the best ones, and the way of the train was clear so far.
-- Assumes nothing.
use Rattle.std.proofs.Common.{◌≡◌, ℕ, suc, ◌+◌, ◌-◌, ◌*◌, ◌/◌, ◌%◌, ◌<◌, ◌≤◌, Bool, true, false, eqb, ltb, List, length, get_or, take, sym, refl, ◌∙◌, ap₂, add-one, arith, get_or-take, ltb-false, ltb-true, lt-ltb}
use mathlib.Core.Bool.{false≢true}
use Rattle.laws.specs.Lists.{choose}
use Rattle.coder.specs.Encoder.{tailed, coded}
use Rattle.coder.specs.Register.{entered, register, parity, mask_x, mask_y}
use Rattle.coder.specs.Train.{Train}
use Rattle.coder.proofs.TrainLaws.{tailed_before, tailed_after, tailed_bits}
use Rattle.trellis.specs.Heard.{branch, mark_cost, train_cost, differing}
use Rattle.trellis.specs.Passes.{candidate, best, Clear}
use Rattle.trellis.specs.Wanted.{Confirmed}
use Rattle.trellis.proofs.MarkLaws.{clear_confirmed, confirmed_clear}
use Rattle.search.specs.Stored.{start, wrapped, paired, gap_at, cost_at, above, Stored}
use Rattle.search.specs.Bytes.{cost_of, heard_of, agreeing, Costs}
use Rattle.search.specs.Promises.{Marked}
use Rattle.search.proofs.ByteLaws.{cost_most, heard_most, branch_agreeing}
use Rattle.search.proofs.TurnLaws.{turn_none, turn_costs, turn_above}

-- the costs of the second pass
abbrev pub second : List ℕ → List ℕ → ℕ → ℕ → ℕ
second heard w = branch (mark_cost (cost_of heard) (heard_of heard) w)

-- a bit costs at most one more than twice what it did, and a step twice that
module _ (heard w : List ℕ) (B : ℕ) (low : (m bit : ℕ) → cost_of heard m bit ≤ B) where
  mark_within : (m bit : ℕ) → mark_cost (cost_of heard) (heard_of heard) w m bit ≤ 2 * B + 1
  unfolding mark_cost heard_of
  mark_within m bit = omega (arith, low m bit, heard_most (get_or heard m 0) (eqb bit (coded (tailed w) m)))

  pub second_within : (t r : ℕ) → second heard w t r ≤ 2 * (2 * B + 1)
  unfolding branch
  second_within t r = omega (arith, mark_within (2 * t) (parity r mask_x), mark_within (2 * t + 1) (parity r mask_y))

pub second_most : (heard w : List ℕ) → ((m : ℕ) → get_or heard m 0 < 256) → (t r : ℕ) → second heard w t r ≤ 510
second_most heard w bytes = second_within heard w 127 (cost_most heard bytes)

-- t steps are done
pub record Marking (n : ℕ) (heard w costs : List ℕ) (r t : ℕ) : Type 0 where
  pub counted : t ≤ n + 6
  pub most : n ≤ 3472
  pub bytes : (m : ℕ) → get_or heard m 0 < 256
  pub train : Train n w
  pub held : Stored (λ s. wrapped (best (second heard w) start t s)) costs
  pub inputs : r ≡ register (tailed w) t
  pub clear : Clear (second heard w) start (tailed w) t

pub marking_start : (n : ℕ) (heard w costs : List ℕ) → n ≤ 3472 → ((m : ℕ) → get_or heard m 0 < 256) → Train n w
    → Stored (λ s. choose (eqb s 0) 0 start) costs → Marking n heard w costs 0 0
unfolding register Clear
marking_start n heard w costs most bytes train started = record {
  counted = omega arith;
  most = most;
  bytes = bytes;
  train = train;
  held = turn_none _ costs started;
  inputs = refl;
  clear = λ t h. absurd (omega arith);
}

-- input t of the encoder
pub input_is : (n t : ℕ) (train : List ℕ) → Train n (take n train) → choose (ltb t n) (get_or train t 0) 0 ≡ get_or (tailed (take n train)) t 0
input_is n t train whole = go (ltb t n) refl
  where
    count : length (take n train) ≡ n
    count = whole.count

    go : (z : Bool) → ltb t n ≡ z → choose z (get_or train t 0) 0 ≡ get_or (tailed (take n train)) t 0
    go true e =
        let h : t < n = ltb-true t n e in
        sym (get_or-take n train t 0 h) ∙ sym (tailed_before (take n train) t (rw count h))
    go false e = sym (tailed_after (take n train) t (rw count (ltb-false t n e)))

pub input_bit : (n t x : ℕ) (train : List ℕ) → Train n (take n train) → x ≡ choose (ltb t n) (get_or train t 0) 0 → x < 2
input_bit n t x train whole e = omega (arith, e ∙ input_is n t train whole, tailed_bits whole t)

-- one step: what the register is, and whether the other way is strictly above
module _ (n : ℕ) (heard w costs : List ℕ) (r t : ℕ) (m : Marking n heard w costs r t) (more : t < n + 6)
    (x r' x0 x1 y0 y1 : ℕ) (costs' gaps : List ℕ) (is_input : x ≡ get_or (tailed w) t 0) (after : r' ≡ entered r x) (low : r' < 128)
    (pair : Costs (agreeing (get_or heard (2 * t) 0) (parity r' mask_x)) (agreeing (get_or heard (2 * t + 1) 0) (parity r' mask_y)) x0 x1 y0 y1)
    (stored : Stored (cost_at costs (paired x0 x1 y0 y1)) costs') (compared : Stored (gap_at costs (paired x0 x1 y0 y1)) gaps) where
  abbrev own : ℕ
  own = candidate (best (second heard w) start t) (second heard w t) (r' / 2) (r' % 2)

  abbrev other : ℕ
  other = candidate (best (second heard w) start t) (second heard w t) (r' / 2) (1 - r' % 2)

  is_register : r' ≡ register (tailed w) (suc t)
  unfolding register
  is_register = after ∙ ap₂ entered m.inputs is_input

  same : (q : ℕ) → paired x0 x1 y0 y1 q ≡ second heard w t q
  same = branch_agreeing heard w m.train t x0 x1 y0 y1 (rw is_register at pair)

  tells : above (get_or gaps (r' / 2) 0) (r' % 2) ≡ ltb own other
  tells =
      turn_above (second heard w) 510 (second_most heard w m.bytes) (omega arith) t costs (paired x0 x1 y0 y1) same m.held gaps compared
      (r' / 2) (r' % 2) (omega arith) (omega arith)

  pub marking_again : above (get_or gaps (r' / 2) 0) (r' % 2) ≡ true → Marking n heard w costs' r' (t + 1)
  unfolding Clear
  marking_again e = record {
    counted = omega arith;
    most = m.most;
    bytes = m.bytes;
    train = m.train;
    held = rw (add-one t)
        (turn_costs (second heard w) 510 (second_most heard w m.bytes) (omega arith) t costs (paired x0 x1 y0 y1) same m.held costs' stored);
    inputs = rw (add-one t) is_register;
    clear = λ k h. at k h (ltb k t) refl;
  }
    where
      below : own < other
      below = ltb-true own other (sym tells ∙ e)

      at : (k : ℕ) → k < t + 1 → (z : Bool) → ltb k t ≡ z
          → candidate (best (second heard w) start k) (second heard w k) (register (tailed w) (suc k) / 2) (register (tailed w) (suc k) % 2)
          < candidate (best (second heard w) start k) (second heard w k) (register (tailed w) (suc k) / 2) (1 - register (tailed w) (suc k) % 2)
      at k h true z = m.clear k (ltb-true k t z)
      at k h false z =
          let last : k ≡ t = omega (arith, ltb-false k t z) in
          rw (last, ← is_register) below

  pub marked_not : above (get_or gaps (r' / 2) 0) (r' % 2) ≡ false → Marked n heard w false
  unfolding Clear
  marked_not e = record {
    only_then = λ z. absurd (false≢true z);
    always_then = λ confirmed. sym (sym (lt-ltb own other (rw is_register (sure confirmed t more))) ∙ sym tells ∙ e);
  }
    where
      sure : Confirmed n (train_cost (cost_of heard) n) (differing (heard_of heard) n) w → Clear (second heard w) start (tailed w) (n + 6)
      sure confirmed =
          confirmed_clear (cost_of heard) (heard_of heard) n w start 510 (second_most heard w m.bytes) (omega arith) m.train confirmed

pub marked_so : (n : ℕ) (heard w costs : List ℕ) (r t : ℕ) → Marking n heard w costs r t → n + 6 ≤ t → Marked n heard w true
marked_so n heard w costs r t m h =
    let e : t ≡ n + 6 = omega (arith, m.counted) in
    record {
      only_then = λ _. clear_confirmed (cost_of heard) (heard_of heard) n w start m.train (rw e at m.clear);
      always_then = λ _. refl;
    }
