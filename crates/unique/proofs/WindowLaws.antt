-- What P2 keeps, by windows of four places from an even one on: the first two, or the first and the last, or all but the first.
--   window     the rule for four bits in a row, by which of them are kept
--   window_at  the rule at the places 2 c to 2 c + 3
--   Windowed   the rule everywhere, and the first two bits are kept
-- Assumes nothing.
use mathlib.Core.Path.{◌≡◌, refl, ◌∙◌}
use mathlib.Core.Bool.{Bool, true, false}
use mathlib.Core.List.{List, [], ◌∷◌}
use Prim.Native.Nat.{ℕ, suc, ◌+◌, ◌-◌, ◌*◌, ◌/◌, ◌%◌, ◌≤◌, ◌<◌}
use native.Mathlib.Nat.{add-sub_cancel_left, mod-lt, div-add-mod, mul_assoc, mul-add-mod_self_left}
use native.Mathlib.Omega.{arith}
use lib.Dec.{T, ltb, lit<}
use borrow.Author.Tests.{ltb-true, ltb-false, lt-ltb, le-ltb}
use Rattle.laws.proofs.Tables.{both, below, below_at}
use Rattle.modes.specs.declared.Rate.{Rate}
use Rattle.modes.specs.declared.Rate.TheVariants.{Half, NineSixteenths, ThreeQuarters}
use Rattle.modes.specs.Modes.{rate_of}
use Rattle.modes.specs.Sizes.{sent_bits}
use Rattle.places.specs.Selection.{later, find, Selection, blocks, beside, place}
use Rattle.places.specs.Puncture.{p2, p2_kept_3_4, p2_kept_9_16}
use Rattle.modes.specs.Pdus.{Pdu}
use Rattle.modes.specs.Description.{EachFit}
use Rattle.places.specs.Trains.{pdu, pdus}
use Rattle.unique.proofs.KeptLaws.{is_place, is_place_later, kept, kept_blocks, kept_pdu}

-- the first two, or the first and the last, or all but the first
abbrev pub window : Bool → Bool → Bool → Bool → Bool
window true true k2 k3 = true
window true false k2 k3 = k3
window false k1 k2 k3 = both k1 (both k2 k3)

-- the rule at the places 2 c to 2 c + 3
abbrev pub window_at : Selection → ℕ → Bool
window_at f c = window (kept f (2 * c)) (kept f (2 * c + 1)) (kept f (2 * c + 2)) (kept f (2 * c + 3))

-- the rule everywhere, and the first two bits are kept
pub record Windowed (f : Selection) : Type 0 where
  pub starts : (kept f 0 ≡ true) × (kept f 1 ≡ true)
  pub windows : (c : ℕ) → T (window_at f c)

module _ (l : List ℕ) (h : ℕ) where
  -- bit e from an even bit on of a period of 2 h
  turned : ℕ → ℕ → Bool
  turned r e = is_place (find ((2 * r + e) % (2 * h)) l)

  kept_turned : (c e m : ℕ) → m ≡ 2 * c + e → kept (blocks l (2 * h)) m ≡ turned (c % h) e
  unfolding turned
  kept_turned c e m hm =
      let split : m ≡ 2 * h * (c / h) + (2 * (c % h) + e) = rw (mul_assoc 2 h (c / h)) (omega (arith, div-add-mod c h)) in
      kept_blocks l (2 * h) m ∙ rw (split, mul-add-mod_self_left (2 * h) (c / h))

  -- one test over half a period
  windows_blocks : 0 < h → T (below (λ r. window (turned r 0) (turned r 1) (turned r 2) (turned r 3)) h)
      → (c : ℕ) → T (window_at (blocks l (2 * h)) c)
  windows_blocks some t c =
      rw (
        kept_turned c 0 (2 * c) (omega arith),
        kept_turned c 1 (2 * c + 1) refl,
        kept_turned c 2 (2 * c + 2) refl,
        kept_turned c 3 (2 * c + 3) refl,
      )
      (below_at (λ r. window (turned r 0) (turned r 1) (turned r 2) (turned r 3)) h t (c % h) (mod-lt c some))

windowed_p2 : (r : Rate) → Windowed (p2 r)
unfolding p2 place turned find later p2_kept_3_4 p2_kept_9_16
windowed_p2 Half = record { starts = (refl, refl); windows = λ c. tt }
windowed_p2 ThreeQuarters = record { starts = (refl, refl); windows = windows_blocks p2_kept_3_4 3 (lit< tt) tt }
windowed_p2 NineSixteenths = record { starts = (refl, refl); windows = windows_blocks p2_kept_9_16 9 (lit< tt) tt }

pub windowed_pdu : (k : ℕ) → 1 ≤ k → k ≤ 7 → Windowed (pdu k)
windowed_pdu k low high =
    let w : Windowed (p2 (rate_of k)) = windowed_p2 (rate_of k) in
    record { starts = simp (kept_pdu k low high) w.starts; windows = λ c. simp (kept_pdu k low high) (w.windows c) }

-- the rule where the last two are the first of another PDU
window_full : (k0 k1 k2 k3 : Bool) → T (window k0 k1 k2 k3) → T (window k0 k1 true true)
window_full true true k2 k3 t = tt
window_full true false k2 k3 t = tt
window_full false true k2 k3 t = tt
window_full false false k2 k3 t = t

module _ (N o : ℕ) {f g : Selection} (wf : Windowed f) (wg : Windowed g) where
  first : (m : ℕ) → m < 2 * N → kept (beside (2 * N) o f g) m ≡ kept f m
  unfolding place
  first m h = rw (lt-ltb m (2 * N) h)

  rest : (m n : ℕ) → m ≡ 2 * N + n → kept (beside (2 * N) o f g) m ≡ kept g n
  unfolding place
  rest m n e = rw (e, le-ltb (2 * N + n) (2 * N) (omega arith), add-sub_cancel_left (2 * N) n) (is_place_later o (place g n))

  starts_beside : (kept (beside (2 * N) o f g) 0 ≡ true) × (kept (beside (2 * N) o f g) 1 ≡ true)
  starts_beside = go (ltb 0 N) refl
    where
      go : (x : Bool) → ltb 0 N ≡ x → (kept (beside (2 * N) o f g) 0 ≡ true) × (kept (beside (2 * N) o f g) 1 ≡ true)
      go true p = let h : 0 < N = ltb-true 0 N p in rw (first 0 (omega arith), first 1 (omega arith)) wf.starts
      go false p = let h : N ≤ 0 = ltb-false 0 N p in rw (rest 0 0 (omega arith), rest 1 1 (omega arith)) wg.starts

  window_beside : (c : ℕ) → T (window_at (beside (2 * N) o f g) c)
  window_beside c = go (ltb c N) (ltb (suc c) N) refl refl
    where
      go : (x y : Bool) → ltb c N ≡ x → ltb (suc c) N ≡ y → T (window_at (beside (2 * N) o f g) c)
      go true true p q =
          let h : suc c < N = ltb-true (suc c) N q in
          rw (first (2 * c) (omega arith), first (2 * c + 1) (omega arith), first (2 * c + 2) (omega arith), first (2 * c + 3) (omega arith))
          (wf.windows c)
      go true false p q =
          let h : suc c ≡ N = omega (arith, ltb-true c N p, ltb-false (suc c) N q) in
          rw (
            first (2 * c) (omega arith),
            first (2 * c + 1) (omega arith),
            rest (2 * c + 2) 0 (omega arith),
            rest (2 * c + 3) 1 (omega arith),
            wg.starts.0,
            wg.starts.1,
          )
          (window_full (kept f (2 * c)) (kept f (2 * c + 1)) (kept f (2 * c + 2)) (kept f (2 * c + 3)) (wf.windows c))
      go false y p q =
          let d : ℕ = c - N in
          let h : N ≤ c = ltb-false c N p in
          rw (
            rest (2 * c) (2 * d) (omega arith),
            rest (2 * c + 1) (2 * d + 1) (omega arith),
            rest (2 * c + 2) (2 * d + 2) (omega arith),
            rest (2 * c + 3) (2 * d + 3) (omega arith),
          )
          (wg.windows d)

  windowed_beside : Windowed (beside (2 * N) o f g)
  windowed_beside = record { starts = starts_beside; windows = window_beside }

pub windowed_pdus : (ps : List Pdu) → EachFit ps → Windowed (pdus ps)
unfolding pdus EachFit place
windowed_pdus [] fit = record { starts = (refl, refl); windows = λ c. tt }
windowed_pdus (p ∷ ps) (fit, fits) =
    windowed_beside p.length (sent_bits p.mode p.length) (windowed_pdu p.mode fit.from_1 fit.to_7) (windowed_pdus ps fits)
