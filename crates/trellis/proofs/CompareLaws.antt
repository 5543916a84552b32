-- How many comparisons a search for a train of N bits takes: none in the first six steps, then 64 in each step of the train's bits, and in the
-- tail 32, 16, 8, 4, 2, 1.
-- Assumes nothing.
use mathlib.Core.Path.{◌≡◌, refl, sym, ap, ◌∙◌}
use mathlib.Core.Bool.{Bool, true, false}
use mathlib.Core.List.{List}
use Prim.Native.Nat.{ℕ, zero, suc, ◌+◌, ◌-◌, ◌*◌, ◌/◌, ◌%◌, ◌^◌, ◌≤◌, ◌<◌}
use native.Mathlib.Nat.{add-zero, add-suc, pow-suc, pow-succ', div-eq_of_lt, div-div-eq-div-mul}
use native.Mathlib.Omega.{arith}
use lib.Dec.{leb, ltb}
use lib.Pow.{pow_mono}
use borrow.Author.Tests.{leb-true, leb-false, ltb-true, ltb-false, le-leb, lt-ltb}
use Rattle.laws.specs.Lists.{choose, tabulate}
use Rattle.laws.specs.Sums.{total}
use Rattle.laws.proofs.AnswerLaws.{same_test}
use Rattle.laws.proofs.PackingLaws.{packed_ext, packed_bits}
use Rattle.laws.proofs.SumLaws.{total_ext, count_below}
use Rattle.coder.specs.Encoder.{tailed, lag}
use Rattle.coder.specs.Register.{register}
use Rattle.coder.specs.Train.{Train}
use Rattle.coder.proofs.EncoderLaws.{lag_back, lag_none}
use Rattle.coder.proofs.TrainLaws.{tailed_after, tailed_bits, tabulate_train, tailed_tabulate}
use Rattle.trellis.specs.Partial.{state, Leads}
use Rattle.trellis.specs.Compared.{Meet, Number, Comparisons}
use Rattle.trellis.proofs.TrackLaws.{state_low, state_packed}
use Rattle.trellis.proofs.PartialLaws.{leads_low}

-- ---- two numbers of the same pairs are equal

pub one_number : {T S : ℕ} {P : ℕ → ℕ → Type 0} {k l : ℕ} → Number T S P k → Number T S P l → k ≡ l
one_number {T} {S} {P} x y =
    let same : (t s : ℕ) → t < T → s < S → x.test t s ≡ y.test t s =
    λ t s ht hs. same_test _ _ (P t s) (x.only_then t s ht hs) (x.always_then t s ht hs) (y.only_then t s ht hs) (y.always_then t s ht hs)
    in
    x.found
    ∙ total_ext T _ _ (λ t ht. total_ext S _ _ (λ s hs. ap (λ (b : Bool). choose b 1 0) (same t s ht hs)))
    ∙ sym y.found

-- ---- where partial trains meet

-- when j zeros have come behind a train's bits, its state is below 2 ^ (6 - j)
zeros_left : {N : ℕ} {w : List ℕ} → Train N w → (j : ℕ) → j ≤ 6 → state (tailed w) (N + j) < 2 ^ (6 - j)
unfolding register
zeros_left {N} {w} train zero h = state_low (tailed w) (tailed_bits train) (N + 0)
zeros_left {N} {w} train (suc j) h =
    let e : 6 - j ≡ suc (6 - suc j) = omega arith in
    let earlier : register (tailed w) (N + j) / 2 < 2 ^ (6 - suc j) * 2 = rw (e, pow-suc 2 (6 - suc j)) at (zeros_left train j (omega arith)) in
    rw (add-suc N j, tailed_after w (N + j) (omega (arith, train.count))) (omega arith)

-- how many states the zeros that have come by step t leave
abbrev left : (N t : ℕ) → ℕ
left N t = 2 ^ (6 - (suc t - N))

-- the inputs that lead into state s at step t with oldest bit d: the bits of the register 2 s + d
abbrev inputs : (t s d k : ℕ) → ℕ
inputs t s d k = (2 * s + d) / 2 ^ (k + 6 - t) % 2

module _ (N t s d : ℕ) (late : 6 ≤ t) (within : t < N + 6) (bit : d < 2) (low : s < left N t) where
  abbrev way : List ℕ
  way = tabulate N (inputs t s d)

  way_train : Train N way
  way_train = tabulate_train N (inputs t s d) (λ k. omega arith)

  -- the last seven inputs are these bits, in the tail too
  way_lag : (i : ℕ) → i ≤ 6 → lag (tailed way) t i ≡ (2 * s + d) / 2 ^ (6 - i) % 2
  way_lag i h = lag_back (tailed way) (t - i) i t (omega arith) ∙ tailed_tabulate N (inputs t s d) (t - i) ∙ go (ltb (t - i) N) refl
    where
      go : (x : Bool) → ltb (t - i) N ≡ x → choose x (inputs t s d (t - i)) 0 ≡ (2 * s + d) / 2 ^ (6 - i) % 2
      go true e = let back : t - i + 6 - t ≡ 6 - i = omega arith in rw back
      go false e =
          let after : N ≤ t - i = ltb-false (t - i) N e in
          let most : 2 ^ suc (6 - (suc t - N)) ≤ 2 ^ (6 - i) = pow_mono (omega arith) in
          let small : 2 * s + d < 2 ^ (6 - i) = omega (arith, rw (pow-suc 2 (6 - (suc t - N))) at most) in
          rw (div-eq_of_lt small)

  -- six of them make the state
  way_state : state (tailed way) (suc t) ≡ s
  way_state =
      state_packed (tailed way) (tailed_bits way_train) t
      ∙ packed_ext 6 _ _ (λ i h. way_lag (5 - i) (omega arith) ∙ higher i h)
      ∙ packed_bits 6 s small
    where
      small : s < 2 ^ 6
      small = omega (arith, pow_mono {i = 6 - (suc t - N)} {j = 6} (omega arith))

      higher : (i : ℕ) → i < 6 → (2 * s + d) / 2 ^ (6 - (5 - i)) % 2 ≡ s / 2 ^ i % 2
      higher i h =
          let e : 6 - (5 - i) ≡ suc i = omega arith in
          let half : (2 * s + d) / 2 ≡ s = omega arith in
          rw (e, pow-succ' 2 i, ← div-div-eq-div-mul (2 * s + d) 2 (2 ^ i), half)

  way_leads : Leads N (suc t) s way
  way_leads = record { train = way_train; within = omega arith; there = way_state }

  -- and the seventh is the oldest
  way_oldest : lag (tailed way) t 6 ≡ d
  way_oldest = way_lag 6 (omega arith) ∙ omega arith

module _ (N : ℕ) where
  -- at step t partial trains with different oldest bits meet in the states below this, and in no others
  abbrev met : ℕ → ℕ
  met t = choose (leb 6 t) (left N t) 0

  meet_met : (t s : ℕ) → t < N + 6 → Meet N t s → s < met t
  meet_met t s h m = go (leb 6 t) refl
    where
      reached : (x : Bool) → ltb t N ≡ x → s < left N t
      reached true e = let none : suc t - N ≡ 0 = omega (arith, ltb-true t N e) in rw none (leads_low m.one_leads)
      reached false e =
          let back : N + (suc t - N) ≡ suc t = omega (arith, ltb-false t N e) in
          rw (back, m.one_leads.there) at (zeros_left m.one_leads.train (suc t - N) (omega (arith, ltb-false t N e)))

      go : (x : Bool) → leb 6 t ≡ x → s < choose x (left N t) 0
      go true e = reached (ltb t N) refl
      go false e =
          let early : t < 6 = leb-false 6 t e in
          absurd (m.differ (lag_none (tailed m.one) t 6 early ∙ sym (lag_none (tailed m.other) t 6 early)))

  met_meet : (t s : ℕ) → t < N + 6 → s < met t → Meet N t s
  met_meet t s h = go (leb 6 t) refl
    where
      go : (x : Bool) → leb 6 t ≡ x → s < choose x (left N t) 0 → Meet N t s
      go true e low =
          let late : 6 ≤ t = leb-true 6 t e in
          record {
            one = way N t s 0 late h (omega arith) low;
            other = way N t s 1 late h (omega arith) low;
            one_leads = way_leads N t s 0 late h (omega arith) low;
            other_leads = way_leads N t s 1 late h (omega arith) low;
            differ = λ e. absurd (omega (arith, e, way_oldest N t s 0 late h (omega arith) low, way_oldest N t s 1 late h (omega arith) low));
          }
      go false e low = absurd (omega arith)

  met_most : (t : ℕ) → met t ≤ 64
  met_most t = go (leb 6 t)
    where
      go : (x : Bool) → choose x (left N t) 0 ≤ 64
      go true = pow_mono {i = 6 - (suc t - N)} {j = 6} (omega arith)
      go false = omega arith

  -- ---- how many

  -- none in the first six steps, and then 64 in each step of the train's bits
  met_bits : (n : ℕ) → n ≤ N → total n met ≡ 64 * (n - 6)
  unfolding total
  met_bits zero h = refl
  met_bits (suc n) h =
      let none : suc n - N ≡ 0 = omega arith in
      rw (met_bits n (omega arith), none) (go (leb 6 n) refl)
    where
      go : (x : Bool) → leb 6 n ≡ x → 64 * (n - 6) + choose x (2 ^ 6) 0 ≡ 64 * (suc n - 6)
      go true e = omega (arith, leb-true 6 n e)
      go false e = omega (arith, leb-false 6 n e)

  -- in the tail half of what was left at each step: 32, 16, 8, 4, 2, 1
  met_tail : 6 ≤ N → (j : ℕ) → j ≤ 6 → total (N + j) met + 2 ^ (6 - j) ≡ 64 * (N - 6) + 64
  unfolding total
  met_tail long zero h = rw (add-zero N) (omega (arith, met_bits N (omega arith)))
  met_tail long (suc j) h =
      let zeros : 6 - (suc (N + j) - N) ≡ 6 - suc j = omega arith in
      let twice : 6 - j ≡ suc (6 - suc j) = omega arith in
      let earlier : total (N + j) met + 2 ^ (6 - suc j) * 2 ≡ 64 * (N - 6) + 64 = rw (twice, pow-suc 2 (6 - suc j)) at (met_tail long j (omega arith)) in
      rw (add-suc N j, le-leb 6 (N + j) (omega arith), zeros) (omega (arith, earlier))

  -- the number of pairs (step, state) is that of the formula
  pub formula_compares : (k : ℕ) → 6 ≤ N → k ≡ 64 * (N - 6) + 63 → Comparisons N k
  formula_compares k long e =
      let all : total (N + 6) met ≡ 64 * (N - 6) + 63 = omega (arith, met_tail long 6 (omega arith)) in
      record {
        test = λ t s. ltb s (met t);
        only_then = λ t s ht hs e. met_meet t s ht (ltb-true s (met t) e);
        always_then = λ t s ht hs m. lt-ltb s (met t) (meet_met t s ht m);
        found = e ∙ sym all ∙ total_ext (N + 6) _ _ (λ t ht. sym (count_below 64 (met t) (met_most t)));
      }

  pub compares_formula : (k : ℕ) → 6 ≤ N → Comparisons N k → k ≡ 64 * (N - 6) + 63
  compares_formula k long c = one_number c (formula_compares (64 * (N - 6) + 63) long refl)
