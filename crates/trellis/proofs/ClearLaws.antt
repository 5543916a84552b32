-- A way is clear exactly where its train is strictly below every other.
-- Assumes nothing.
use mathlib.Core.Path.{◌≡◌, refl, sym, ap, ap₂, ◌∙◌}
use mathlib.Core.Logic.{◌≢◌}
use mathlib.Core.Bool.{Bool, true, false}
use mathlib.Core.List.{List, [], ◌∷◌}
use Prim.Native.Nat.{ℕ, zero, suc, ◌+◌, ◌-◌, ◌*◌, ◌≤◌, ◌<◌}
use native.Mathlib.Omega.{arith}
use lib.Dec.{ltb, eqb}
use lib.ListN.{length, get_or}
use borrow.Author.Tests.{ltb-true, ltb-false, eqb-true, eqb-false}
use Rattle.laws.specs.Sums.{total}
use Rattle.coder.specs.Encoder.{tailed}
use Rattle.coder.specs.Register.{register}
use Rattle.coder.specs.Train.{Train}
use Rattle.coder.proofs.EncoderLaws.{Bits}
use Rattle.coder.proofs.TrainLaws.{tailed_bits}
use Rattle.trellis.specs.Partial.{state, partial_cost}
use Rattle.trellis.specs.Passes.{via, before, candidate, best, choice, Clear}
use Rattle.trellis.proofs.StepLaws.{choice_bit, best_choice, best_step}
use Rattle.trellis.proofs.PathLaws.{along, origin, best_least, by, by_bits, by_length, by_cost}
use Rattle.trellis.proofs.TrackLaws.{own, leaving, leaving_length, leaving_bits, own_via, own_before, along_leaving, best_inputs}
use Rattle.trellis.proofs.WayLaws.{tailed_home, leaving_known}
use Rattle.trellis.proofs.JoinLaws.{Joined, joined, joined_cost, costs_later}
use Rattle.trellis.proofs.PartialLaws.{early_most, survivor_home}

-- what the best way into its state costs that has the oldest bit d
abbrev into : (ℕ → ℕ → ℕ) → ℕ → List ℕ → ℕ → ℕ → ℕ
into b P w t d = best b P t (before (state w (suc t)) d) + b t (via (state w (suc t)) d)

module _ (b : ℕ → ℕ → ℕ) (P : ℕ) (w : List ℕ) (bits : Bits w) where
  -- by the own bit: from the own state
  into_own : (t : ℕ) → into b P w t (own w t) ≡ best b P t (state w t) + b t (register w (suc t))
  into_own t = rw (own_before w bits t, own_via w t)

  clear_fewer : (n : ℕ) → Clear b P w (suc n) → Clear b P w n
  unfolding Clear
  clear_fewer n clear t h = clear t (omega arith)

  -- the last step of a clear way, against the other bit
  clear_last : (n : ℕ) → Clear b P w (suc n) → (d : ℕ) → d < 2 → d ≢ own w n → into b P w n (own w n) < into b P w n d
  unfolding Clear candidate
  clear_last n clear d h apart =
      let other : 1 - own w n ≡ d = omega (arith, apart) in
      rw other at (clear n (omega arith))

  -- the best way comes by the own bit
  best_own : (n : ℕ) → Clear b P w (suc n) → best b P (suc n) (state w (suc n)) ≡ into b P w n (own w n)
  best_own n clear = go (eqb c (own w n)) refl
    where
      s : ℕ
      s = state w (suc n)

      c : ℕ
      c = choice b P n s

      go : (x : Bool) → eqb c (own w n) ≡ x → best b P (suc n) s ≡ into b P w n (own w n)
      go true e = best_choice b P n s ∙ ap (into b P w n) (eqb-true c (own w n) e)
      go false e =
          let dearer = clear_last n clear c (choice_bit b P n s) (eqb-false c (own w n) e) in
          absurd (omega (arith, dearer, best_choice b P n s, best_step b P n s (own w n) (omega arith)))

  -- a clear way is the best into its state
  pub clear_best : (n : ℕ) → Clear b P w n → best b P n (state w n) ≡ partial_cost b w n
  unfolding best partial_cost total
  clear_best zero clear = unfold register in refl
  clear_best (suc n) clear = omega (arith, best_own n clear, into_own n, clear_best n (clear_fewer n clear))

  -- and strictly below every other way into it
  pub clear_only : (ds : List ℕ) → Bits ds → Clear b P w (length ds) → ds ≢ leaving w (length ds)
      → partial_cost b w (length ds) < along b P (state w (length ds)) ds
  unfolding leaving along partial_cost total
  clear_only [] dbits clear apart = absurd (apart refl)
  clear_only (d ∷ ds) dbits clear apart = go (clear_only ds (λ t. dbits (suc t)) (clear_fewer (length ds) clear)) (eqb d (own w (length ds))) refl
    where
      n : ℕ
      n = length ds

      go : (ds ≢ leaving w n → partial_cost b w n < along b P (state w n) ds) → (x : Bool) → eqb d (own w n) ≡ x
          → partial_cost b w (suc n) < along b P (before (state w (suc n)) d) ds + b n (via (state w (suc n)) d)
      go rest true e =
          let same : d ≡ own w n = eqb-true d (own w n) e in
          rw (same, own_before w bits n, own_via w n) (omega (arith, rest (λ r. apart (ap₂ ◌∷◌ same r))))
      go rest false e = omega (
        arith,
        clear_last n clear d (dbits 0) (eqb-false d (own w n) e),
        best_least b P (before (state w (suc n)) d) ds (λ t. dbits (suc t)),
        into_own n,
        clear_best n (clear_fewer n clear),
      )

  -- so these inputs are strictly below others that lead there
  clear_inputs : (v : List ℕ) → Bits v → (n : ℕ) → Clear b P w n → state w n ≡ state v n → leaving v n ≢ leaving w n
      → partial_cost b w n < partial_cost b v n
  clear_inputs v bits' n clear there apart =
      let long : length (leaving v n) ≡ n = leaving_length v n in
      rw (long, there, along_leaving b P v bits' n) at (clear_only (leaving v n) (leaving_bits v n) (rw long clear) (rw long apart))

-- w is strictly below every other train of N bits
abbrev pub Only : (ℕ → ℕ → ℕ) → ℕ → List ℕ → Type 0
Only b N w = (v : List ℕ) → Train N v → v ≢ w → partial_cost b (tailed w) (N + 6) < partial_cost b (tailed v) (N + 6)

module _ (b : ℕ → ℕ → ℕ) (P M : ℕ) (most : (t r : ℕ) → b t r ≤ M) (far : 6 * M < P) {N : ℕ} {w : List ℕ} (train : Train N w) where
  -- a way into a state of w's that is no dearer started in state 0
  home : (t d : ℕ) → into b P (tailed w) t d ≤ partial_cost b (tailed w) (suc t)
      → origin (state (tailed w) (suc t)) (by b P t (state (tailed w) (suc t)) d) ≡ 0
  unfolding origin
  home t d cheap =
      survivor_home b P M most far t (before (state (tailed w) (suc t)) d) (omega arith)
      (λ early. omega (arith, cheap, early_most b P M most (tailed w) (suc t) (omega arith)))

  module _ (only : Only b N w) where
    -- a way into a state of w's with the other oldest bit is strictly above
    other_above : (t d : ℕ) → t < N + 6 → d < 2 → d ≢ own (tailed w) t → partial_cost b (tailed w) (suc t) < into b P (tailed w) t d
    unfolding leaving
    other_above t d h bit apart = go (ltb (partial_cost b (tailed w) (suc t)) (into b P (tailed w) t d)) refl
      where
        s : ℕ
        s = state (tailed w) (suc t)

        another : Joined N (suc t) w (by b P t s d) → partial_cost b (tailed w) (suc t) < into b P (tailed w) t d
        another j =
            let e : suc t + (N + 6 - suc t) ≡ N + 6 = omega arith in
            omega (
              arith,
              only j.inputs j.train (λ r. apart (ap (λ l. get_or l 0 0) (sym j.way) ∙ ap (λ v. own (tailed v) t) r)),
              rw e at (costs_later (tailed j.inputs) (tailed w) (suc t) j.there j.after b (N + 6 - suc t)),
              joined_cost b P j,
              by_cost b P t s d,
            )

        go : (x : Bool) → ltb (partial_cost b (tailed w) (suc t)) (into b P (tailed w) t d) ≡ x
            → partial_cost b (tailed w) (suc t) < into b P (tailed w) t d
        go true e = ltb-true _ _ e
        go false e =
            another (joined train h (by b P t s d) (by_bits b P t s d bit) (by_length b P t s d) (home t d (ltb-false _ _ e)))

    -- where w is strictly below every other train, its way is clear
    pub only_clear : Clear b P (tailed w) (N + 6)
    unfolding Clear candidate partial_cost total
    only_clear t h =
        let bits = tailed_bits train in
        let above = other_above t (1 - own (tailed w) t) h (omega arith) (omega arith) in
        omega (arith, above, into_own b P (tailed w) bits t, best_inputs b P (tailed w) bits t)

-- where the way of w is clear, w is strictly below every other train
pub clear_below : (b : ℕ → ℕ → ℕ) (P : ℕ) {N : ℕ} {w : List ℕ} → Train N w → Clear b P (tailed w) (N + 6) → Only b N w
clear_below b P {N} {w} train clear v train' apart =
    clear_inputs b P (tailed w) (tailed_bits train) (tailed v) (tailed_bits train') (N + 6) clear
    (tailed_home train ∙ sym (tailed_home train')) (λ same. apart (leaving_known train train' same))
