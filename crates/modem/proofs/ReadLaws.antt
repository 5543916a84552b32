-- Readings and soft bytes PDU by PDU: where PDU k begins, and what stands in the buffers after k of them.
-- Assumes nothing.
use mathlib.Core.Path.{◌≡◌, refl, sym, ◌∙◌, ap}
use mathlib.Core.List.{List, [], ◌∷◌, ◌++◌}
use Prim.Native.Nat.{ℕ, suc, ◌+◌, ◌-◌, ◌*◌, ◌≤◌, ◌<◌}
use native.Mathlib.Nat.{le_trans, mul-le-mul_left}
use native.Mathlib.Omega.{arith}
use lib.IntN.{ℤ}
use lib.ListN.{length, take, drop, length-drop}
use lib.Seq.{split_at}
use Rattle.laws.specs.Lists.{filled}
use Rattle.laws.proofs.ListLaws.{part_all, filled_length, filled_part}
use Rattle.modes.specs.declared.Constellation.{Constellation}
use Rattle.modes.specs.declared.train.Train.{Train}
use Rattle.modes.specs.Modes.{constellation_of, bits_of, number}
use Rattle.modes.specs.Sizes.{symbols, carriers, sent_bits}
use Rattle.modes.specs.Pdus.{Pdu, pdu_of, sum_of, pdu_carriers, pdu_sent, carriers_of, sent_of, share_of}
use Rattle.modes.specs.Description.{Fit, FitList, held}
use Rattle.modes.specs.Passed.{pdus_in}
use Rattle.modes.proofs.ModeLaws.{enums_back}
use Rattle.modes.proofs.SizeLaws.{symbols_of_within, sent_of_within}
use Rattle.modes.proofs.PduLaws.{sum_most, share, share_at}
use Rattle.modes.proofs.DescriptionLaws.{pdu_at, count_in, fit_in, pdus_in_length, pdus_in_at, held_fit, held_sum, held_all}
use Rattle.points.specs.Points.{Room}
use Rattle.soft.specs.Soft.{rounded}
use Rattle.soft.specs.Carriers.{exact_at, soft_at, Readings}
use Rattle.modem.specs.Ideal.{ideal_by}
use Rattle.modem.specs.Soften.{exact_by, list_exact, list_soft}
use Rattle.modem.proofs.SizeLaws.{carriers_exact, carriers_symbols}

-- how long the part of a slice is that is left from a on
part_length : {A : Type 0} (a : ℕ) (l : List A) → length (take (length l - a) (drop a l)) ≡ length l - a
part_length a l = ap length (part_all a l) ∙ length-drop a l

-- a PDU's carriers are 48 times its symbols
pub carriers_48 : (mode N s : ℕ) → s ≡ symbols mode N → 48 * s ≡ carriers mode N
unfolding carriers
carriers_48 mode N s e = ap (λ (n : ℕ). 48 * n) e

-- where there is room for the readings of n carriers, there is room for those of fewer
pub fewer_room : (c : Constellation) (n m : ℕ) (sent : List ℕ) (i q : List ℤ) → Room c n sent i q → m ≤ n → Room c m sent i q
fewer_room c n m sent i q room h = record {
  enough = le_trans (mul-le-mul_left (bits_of c) h) room.enough;
  on_i = omega arith;
  on_q = omega arith;
}

-- where PDU k begins: among the sent bits, and among the carriers
pub record Reached (t : Train) (k bits carriers : ℕ) : Type 0 where
  pub bits_is : bits ≡ sent_of (take k (pdus_in t))
  pub carriers_is : carriers ≡ carriers_of (take k (pdus_in t))

pub reached_none : (t : Train) → Reached t 0 0 0
unfolding sum_of
reached_none t = record { bits_is = refl; carriers_is = refl }

module _ (t : Train) (k bits count : ℕ) (r : Reached t k bits count) where
  fit : FitList (pdus_in t)
  fit = fit_in t

  abbrev ps : List Pdu
  ps = pdus_in t

  -- no more than the whole train
  pub reached_small : (bits ≤ 6912) × (count ≤ 6912) × (bits ≤ sent_of (pdus_in t)) × (count ≤ carriers_of (pdus_in t))
  reached_small =
      let b = sum_most pdu_sent ps k in
      let c = sum_most pdu_carriers ps k in
      let most = fit.to_3456 in (
        omega (arith, r.bits_is, b, sent_of_within ps fit.each, most),
        omega (arith, r.carriers_is, c, carriers_symbols ps, symbols_of_within ps fit.each, most),
        omega (arith, r.bits_is, b),
        omega (arith, r.carriers_is, c),
      )

  -- a buffer that is filled for the bits so far is as long as it was
  pub bits_kept : (f : ℕ → ℤ) (old now : List ℤ) → now ≡ filled bits f old → sent_of (pdus_in t) ≤ length old → length now ≡ length old
  bits_kept f old now is room = ap length is ∙ filled_length bits f old (omega (arith, reached_small.2))

  -- a buffer that is filled for the carriers so far is as long as it was
  pub carriers_kept : (f : ℕ → ℤ) (old now : List ℤ) → now ≡ filled count f old → carriers_of (pdus_in t) ≤ length old → length now ≡ length old
  carriers_kept f old now is room = ap length is ∙ filled_length count f old (omega (arith, reached_small.3))

  module _ (h : k < count_in t) where
    abbrev N : ℕ
    N = (pdu_at t k).n

    abbrev mode : ℕ
    mode = number (pdu_at t k).mode

    abbrev c : Constellation
    c = (pdu_at t k).mode.constellation

    pub pdu_fit : Fit (number (pdu_at t k).mode) (pdu_at t k).n
    pdu_fit = held_fit t k h

    same_constellation : constellation_of mode ≡ c
    same_constellation = (enums_back (pdu_at t k).mode.constellation (pdu_at t k).mode.rate pdu_fit.from_1).0

    -- the PDU's carriers bear its sent bits, and both lie within the train's
    more_bits : bits_of (pdu_at t k).mode.constellation * carriers (number (pdu_at t k).mode) (pdu_at t k).n ≡ sent_bits (number (pdu_at t k).mode) (pdu_at t k).n
    more_bits = ap (λ (x : Constellation). bits_of x * carriers mode N) (sym same_constellation) ∙ carriers_exact mode N pdu_fit

    bits_inside : bits + sent_bits (number (pdu_at t k).mode) (pdu_at t k).n ≤ sent_of (pdus_in t)
    bits_inside = omega (arith, r.bits_is, held_sum t k h pdu_sent, sum_most pdu_sent ps (k + 1))

    carriers_inside : count + carriers (number (pdu_at t k).mode) (pdu_at t k).n ≤ carriers_of (pdus_in t)
    carriers_inside = omega (arith, r.carriers_is, held_sum t k h pdu_carriers, sum_most pdu_carriers ps (k + 1))

    pub reached_again : (n m : ℕ) → n ≡ sent_bits (number (pdu_at t k).mode) (pdu_at t k).n → m ≡ carriers (number (pdu_at t k).mode) (pdu_at t k).n
        → Reached t (k + 1) (bits + n) (count + m)
    reached_again n m en em = record {
      bits_is = omega (arith, r.bits_is, en, held_sum t k h pdu_sent);
      carriers_is = omega (arith, r.carriers_is, em, held_sum t k h pdu_carriers);
    }

    -- what is left of the slices is enough for it
    pub read_room : (sent : List ℕ) (i q : List ℤ) (m : ℕ) → m ≡ carriers (number (pdu_at t k).mode) (pdu_at t k).n
        → sent_of (pdus_in t) ≤ length sent → carriers_of (pdus_in t) ≤ length i → carriers_of (pdus_in t) ≤ length q
        → Room (pdu_at t k).mode.constellation m (take (length sent - bits) (drop bits sent)) (take (length i - count) (drop count i)) (take (length q - count) (drop count q))
    read_room sent i q m em enough on_i on_q = record {
      enough = rw (em, more_bits, part_length bits sent) (omega (arith, bits_inside));
      on_i = rw (em, part_length count i) (omega (arith, carriers_inside));
      on_q = rw (em, part_length count q) (omega (arith, carriers_inside));
    }

    pub soften_room : (i q soft : List ℤ) (m : ℕ) → m ≡ carriers (number (pdu_at t k).mode) (pdu_at t k).n
        → carriers_of (pdus_in t) ≤ length i → carriers_of (pdus_in t) ≤ length q → sent_of (pdus_in t) ≤ length soft
        → Readings (pdu_at t k).mode.constellation m (take (length i - count) (drop count i)) (take (length q - count) (drop count q)) (take (length soft - bits) (drop bits soft))
    soften_room i q soft m em on_i on_q room = record {
      on_i = rw (em, part_length count i) (omega (arith, carriers_inside));
      on_q = rw (em, part_length count q) (omega (arith, carriers_inside));
      room = rw (em, more_bits, part_length bits soft) (omega (arith, bits_inside));
    }

    -- entry j of the PDU belongs to it
    own : (size : Pdu → ℕ) (j : ℕ) → j < size (held (pdu_at t k)) → share_of size [] ps (sum_of size (take k ps) + j) ≡ share (take k ps) (held (pdu_at t k)) j
    own size j less =
        let none = pdu_of 0 0 in
        let split : ps ≡ take k ps ++ held (pdu_at t k) ∷ drop (suc k) ps =
        split_at ps k none (omega (arith, pdus_in_length t)) ∙ ap (λ (p : Pdu). take k ps ++ p ∷ drop (suc k) ps) (pdus_in_at t k h none)
        in
        ap (λ (l : List Pdu). share_of size [] l (sum_of size (take k ps) + j)) split ∙ share_at size [] (take k ps) (held (pdu_at t k)) (drop (suc k) ps) j less

    -- its ideal readings, on either axis
    module _ (ideal : Constellation → List ℕ → ℕ → ℤ) (sent : List ℕ) where
      ideal_own : (j : ℕ) → j < carriers mode N
          → ideal c (take (length sent - bits) (drop bits sent)) j ≡ ideal_by ideal sent (share_of pdu_carriers [] ps (count + j))
      unfolding ideal_by
      ideal_own j less =
          rw (part_all bits sent, r.carriers_is, own pdu_carriers j less, r.bits_is)
          (ap (λ (x : Constellation). ideal x (drop (sent_of (take k ps)) sent) j) (sym same_constellation))

      pub read_on : (axis₀ now part : List ℤ) (m : ℕ) → carriers_of (pdus_in t) ≤ length axis₀
          → now ≡ filled count (λ j. ideal_by ideal sent (share_of pdu_carriers [] (pdus_in t) j)) axis₀
          → m ≡ carriers (number (pdu_at t k).mode) (pdu_at t k).n
          → part ≡ filled m (ideal (pdu_at t k).mode.constellation (take (length sent - bits) (drop bits sent))) (take (length now - count) (drop count now))
          → take count now ++ (part ++ drop (length now - count) (drop count now))
          ≡ filled (count + m) (λ j. ideal_by ideal sent (share_of pdu_carriers [] (pdus_in t) j)) axis₀
      read_on axis₀ now part m room is em written =
          let lent : length now ≡ length axis₀ = carriers_kept _ axis₀ now is room in
          ap (λ (l : List ℤ). take count now ++ (l ++ drop (length now - count) (drop count now))) written
          ∙ filled_part count m (length now - count) _ _ axis₀ now is
          (omega (arith, lent, em, carriers_inside)) (omega (arith, em, carriers_inside)) (λ j less. ideal_own j (rw em at less))

    -- its soft bytes
    module _ (i q : List ℤ) where
      soft_own : (j : ℕ) → j < sent_bits mode N
          → soft_at c (take (length i - count) (drop count i)) (take (length q - count) (drop count q)) j ≡ list_soft ps i q (bits + j)
      unfolding soft_at list_soft list_exact exact_by
      soft_own j less =
          rw (part_all count i, part_all count q, r.bits_is, own pdu_sent j less, r.carriers_is)
          (ap (λ (x : Constellation). rounded (exact_at x (drop (carriers_of (take k ps)) i) (drop (carriers_of (take k ps)) q) j)) (sym same_constellation))

      pub soften_on : (soft₀ now part : List ℤ) (m n : ℕ) → sent_of (pdus_in t) ≤ length soft₀
          → now ≡ filled bits (list_soft (pdus_in t) i q) soft₀
          → m ≡ carriers (number (pdu_at t k).mode) (pdu_at t k).n → n ≡ sent_bits (number (pdu_at t k).mode) (pdu_at t k).n
          → part
          ≡ filled (bits_of (pdu_at t k).mode.constellation * m) (soft_at (pdu_at t k).mode.constellation (take (length i - count) (drop count i)) (take (length q - count) (drop count q)))
          (take (length now - bits) (drop bits now))
          → take bits now ++ (part ++ drop (length now - bits) (drop bits now)) ≡ filled (bits + n) (list_soft (pdus_in t) i q) soft₀
      soften_on soft₀ now part m n room is em en written =
          let lent : length now ≡ length soft₀ = bits_kept _ soft₀ now is room in
          let all : bits_of c * m ≡ n = ap (λ (x : ℕ). bits_of c * x) em ∙ more_bits ∙ sym en in
          ap (λ (l : List ℤ). take bits now ++ (l ++ drop (length now - bits) (drop bits now)))
          (written
          ∙ ap
          (λ (x : ℕ). filled x (soft_at c (take (length i - count) (drop count i)) (take (length q - count) (drop count q))) (take (length now - bits) (drop bits now)))
          all)
          ∙ filled_part bits n (length now - bits) _ _ soft₀ now is
          (omega (arith, lent, en, bits_inside)) (omega (arith, en, bits_inside)) (λ j less. soft_own j (rw en at less))

-- past the last PDU all has been passed
pub reached_all : (t : Train) (k bits count : ℕ) → Reached t k bits count → count_in t ≤ k → (bits ≡ sent_of (pdus_in t)) × (count ≡ carriers_of (pdus_in t))
reached_all t k bits count r h = (r.bits_is ∙ held_all t pdu_sent k h, r.carriers_is ∙ held_all t pdu_carriers k h)
