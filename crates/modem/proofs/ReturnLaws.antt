-- Ideal readings of a sent train: the train costs nothing, every other costs at least four for each bit in which it differs, and differs
-- in one at least.
-- Assumes nothing.
use mathlib.Core.Path.{◌≡◌, refl, sym, ◌∙◌, ap, subst}
use mathlib.Core.Bool.{Bool, true, false}
use mathlib.Core.Logic.{◌≢◌}
use mathlib.Core.List.{List, [], ◌∷◌, ◌++◌}
use Prim.Native.Nat.{ℕ, zero, suc, ◌+◌, ◌*◌, ◌/◌, ◌≤◌, ◌<◌}
use native.Mathlib.Nat.{mul_comm, div-lt_iff_lt-mul}
use native.Mathlib.Omega.{arith}
use lib.Dec.{eqb, ltb, lit<}
use lib.IntN.{ℤ, pos}
use lib.ListN.{get_or, drop}
use lib.Seq.{get_or-drop}
use borrow.Author.Tests.{eqb-true, eqb-false, ltb-true, ltb-false}
use Rattle.laws.specs.Lists.{choose, tabulate}
use Rattle.laws.specs.Sums.{total}
use Rattle.laws.proofs.ListLaws.{tabulate_at}
use Rattle.laws.proofs.SumLaws.{total_none}
use Rattle.modes.specs.declared.Constellation.{Constellation}
use Rattle.modes.specs.declared.Constellation.TheVariants.{Bpsk, Qpsk, Qam16, Qam64}
use Rattle.modes.specs.Modes.{bits_of, constellation_of}
use Rattle.modes.specs.Pdus.{Pdu, Share, sum_of, pdu_carriers, pdu_sent, length_of, carriers_of, sent_of}
use Rattle.modes.specs.Description.{Fit, EachFit, LegalList}
use Rattle.modes.proofs.PduLaws.{sum_append, share_at, in_pdu}
use Rattle.places.specs.Trains.{listed}
use Rattle.coder.specs.Train.{Train}
use Rattle.points.specs.Points.{ideal_i, ideal_q}
use Rattle.soft.specs.Soft.{rounded, bit_cost}
use Rattle.soft.specs.Carriers.{soft_at}
use Rattle.soft.proofs.IdealLaws.{ideal_own, ideal_other}
use Rattle.trellis.specs.Wanted.{Returned, Confirmed}
use Rattle.unique.proofs.Unique.{listed_unique}
use Rattle.modem.specs.Sent.{sent_by, cost_by, differing_by}
use Rattle.modem.specs.Ideal.{ideal_by, list_i, list_q}
use Rattle.modem.specs.Soften.{exact_by, list_exact, list_soft, softened}
use Rattle.modem.specs.Costs.{rounded_cost, differing}
use Rattle.modem.proofs.SizeLaws.{fit_in, carriers_exact}
use Rattle.modem.proofs.TrustLaws.{sent_low, by_soft}

-- a sum is at least four times another whose terms are
total_four : (n : ℕ) (f d : ℕ → ℕ) → ((k : ℕ) → k < n → 4 * d k ≤ f k) → 4 * total n d ≤ total n f
unfolding total
total_four zero f d each = omega arith
total_four (suc n) f d each = omega (arith, total_four n f d (λ k h. each k (omega arith)), each n (omega arith))

-- a sum of nothing has no term
total_nothing : (n : ℕ) (d : ℕ → ℕ) → total n d ≡ 0 → (k : ℕ) → k < n → d k ≡ 0
unfolding total
total_nothing zero d e k h = absurd (omega arith)
total_nothing (suc n) d e k h = go (ltb k n) refl (total_nothing n d (omega arith) k)
  where
    go : (t : Bool) → ltb k n ≡ t → (k < n → d k ≡ 0) → d k ≡ 0
    go true t earlier = earlier (ltb-true k n t)
    go false t earlier = let last : k ≡ n = omega (arith, ltb-false k n t) in rw last (omega arith)

-- entries that are all low make a list that is
pub tabulate_low : (n : ℕ) (f : ℕ → ℕ) → ((k : ℕ) → f k < 2) → (m : ℕ) → get_or (tabulate n f) m 0 < 2
unfolding tabulate
tabulate_low zero f each m = omega arith
tabulate_low (suc n) f each zero = each 0
tabulate_low (suc n) f each (suc m) = tabulate_low n (λ k. f (suc k)) (λ k. each (suc k)) m

bits_some : (c : Constellation) → 0 < bits_of c
bits_some Bpsk = lit< tt
bits_some Qpsk = lit< tt
bits_some Qam16 = lit< tt
bits_some Qam64 = lit< tt

none_differ : (t : Bool) → ◌≡◌ {A = ℕ} (choose t 0 1) 0 → t ≡ true
none_differ true e = refl
none_differ false e = absurd (omega arith)

-- the readings of a train's carriers, where they are ideal
abbrev ideals_i : List Pdu → List ℕ → List ℤ
ideals_i ps sent = tabulate (carriers_of ps) (list_i ps sent)

abbrev ideals_q : List Pdu → List ℕ → List ℤ
ideals_q ps sent = tabulate (carriers_of ps) (list_q ps sent)

-- a soft byte that costs its own bit nothing and the other at least four
record Clear (s : ℤ) (bit : ℕ) : Type 0 where
  own : bit_cost s bit ≡ 0
  other : (b : ℕ) → b < 2 → (b ≡ bit → ⊥) → 4 ≤ bit_cost s b

-- sent bit j of one PDU among others, by ideal readings
module _ (sent : List ℕ) (low : (m : ℕ) → get_or sent m 0 < 2) (xs : List Pdu) (p : Pdu) (ys : List Pdu) (fit : Fit p.mode p.length)
    (j : ℕ) (inside : j < pdu_sent p)
  where
    c : Constellation
    c = constellation_of p.mode

    -- its carrier is one of the PDU's
    carrier : j / bits_of c < pdu_carriers p
    unfolding c
    carrier =
        let some : 0 < bits_of c = bits_some c in
        (div-lt_iff_lt-mul some).1 (rw (mul_comm (pdu_carriers p) (bits_of c), carriers_exact p.mode p.length fit) inside)

    -- the carrier's readings are the PDU's, of its own sent bits
    among : carriers_of xs + j / bits_of c < carriers_of (xs ++ p ∷ ys)
    unfolding sum_of
    among = omega (arith, carrier, sum_append pdu_carriers xs (p ∷ ys))

    on_i : get_or (drop (carriers_of xs) (ideals_i (xs ++ p ∷ ys) sent)) (j / bits_of c) (pos 0) ≡ ideal_i c (drop (sent_of xs) sent) (j / bits_of c)
    unfolding c list_i ideal_by
    on_i =
        get_or-drop (carriers_of xs) (ideals_i (xs ++ p ∷ ys) sent) (j / bits_of c) (pos 0)
        ∙ tabulate_at (carriers_of (xs ++ p ∷ ys)) (list_i (xs ++ p ∷ ys) sent) (carriers_of xs + j / bits_of c) (pos 0) among
        ∙ ap (ideal_by ideal_i sent) (share_at pdu_carriers [] xs p ys (j / bits_of c) carrier)

    on_q : get_or (drop (carriers_of xs) (ideals_q (xs ++ p ∷ ys) sent)) (j / bits_of c) (pos 0) ≡ ideal_q c (drop (sent_of xs) sent) (j / bits_of c)
    unfolding c list_q ideal_by
    on_q =
        get_or-drop (carriers_of xs) (ideals_q (xs ++ p ∷ ys) sent) (j / bits_of c) (pos 0)
        ∙ tabulate_at (carriers_of (xs ++ p ∷ ys)) (list_q (xs ++ p ∷ ys) sent) (carriers_of xs + j / bits_of c) (pos 0) among
        ∙ ap (ideal_by ideal_q sent) (share_at pdu_carriers [] xs p ys (j / bits_of c) carrier)

    -- so is its soft byte
    soft_is : (i q : List ℤ) → list_soft (xs ++ p ∷ ys) i q (sent_of xs + j) ≡ soft_at c (drop (carriers_of xs) i) (drop (carriers_of xs) q) j
    unfolding c list_soft list_exact exact_by soft_at
    soft_is i q = ap (λ (s : Share). rounded (exact_by i q s)) (share_at pdu_sent [] xs p ys j inside)

    clear_in : Clear (list_soft (xs ++ p ∷ ys) (ideals_i (xs ++ p ∷ ys) sent) (ideals_q (xs ++ p ∷ ys) sent) (sent_of xs + j)) (get_or sent (sent_of xs + j) 0)
    clear_in =
        let own_sent : List ℕ = drop (sent_of xs) sent in
        let bit : (m : ℕ) → get_or own_sent m 0 < 2 = λ m. rw (get_or-drop (sent_of xs) sent m 0) (low (sent_of xs + m)) in
        rw (soft_is (ideals_i (xs ++ p ∷ ys) sent) (ideals_q (xs ++ p ∷ ys) sent), ← get_or-drop (sent_of xs) sent j 0)
        (record { own = ideal_own c own_sent bit _ _ j on_i on_q; other = ideal_other c own_sent bit _ _ j on_i on_q })

-- sent bit k of a train
clear_at : (ps : List Pdu) → EachFit ps → (sent : List ℕ) → ((m : ℕ) → get_or sent m 0 < 2) → (k : ℕ) → k < sent_of ps
    → Clear (list_soft ps (ideals_i ps sent) (ideals_q ps sent) k) (get_or sent k 0)
clear_at ps each sent low k h =
    let d = in_pdu pdu_sent ps k h in
    rw d.entry_is
    (subst (λ (l : List Pdu). Clear (list_soft l (ideals_i l sent) (ideals_q l sent) (sent_of d.xs + d.at)) (get_or sent (sent_of d.xs + d.at) 0)) (sym d.list_is)
    (clear_in sent low d.xs d.pdu d.ys (fit_in d.xs d.pdu d.ys (subst EachFit d.list_is each)) d.at d.within))

-- the sent bits of a scrambled train, and their ideal readings
abbrev pub sent_list : List Pdu → ℕ → List ℕ → List ℕ
sent_list ps a w = tabulate (sent_of ps) (sent_by (listed ps a) w)

abbrev pub read_i : List Pdu → ℕ → List ℕ → List ℤ
read_i ps a w = ideals_i ps (sent_list ps a w)

abbrev pub read_q : List Pdu → ℕ → List ℕ → List ℤ
read_q ps a w = ideals_q ps (sent_list ps a w)

module _ (ps : List Pdu) (counter a : ℕ) (legal : LegalList ps counter a) (w : List ℕ) (train : Train (length_of ps) w) where
  bit : List ℕ → ℕ → ℕ
  bit = sent_by (listed ps a)

  soft : ℕ → ℤ
  soft = list_soft ps (read_i ps a w) (read_q ps a w)

  clear : (p : ℕ) → p < sent_of ps → Clear (soft p) (bit w p)
  unfolding soft bit
  clear p h =
      rw (tabulate_at (sent_of ps) (sent_by (listed ps a) w) p 0 h) at
      (clear_at ps legal.fit.each (sent_list ps a w) (tabulate_low (sent_of ps) (sent_by (listed ps a) w) (sent_low (listed ps a) w)) p h)

  -- the cost of a train by the soft bytes
  cost : List ℕ → ℕ
  cost = rounded_cost ps a (softened ps (read_i ps a w) (read_q ps a w))

  cost_is : (v : List ℕ) → cost v ≡ total (sent_of ps) (λ p. bit_cost (soft p) (bit v p))
  unfolding cost soft bit cost_by list_soft
  cost_is v = by_soft ps a (read_i ps a w) (read_q ps a w) v

  -- the train itself costs nothing
  own : cost w ≡ 0
  own = cost_is w ∙ total_none (sent_of ps) _ (λ p h. (clear p h).own)

  -- another costs four at least for each bit in which it differs
  other : (v : List ℕ) → 4 * differing ps a w v ≤ cost v
  unfolding differing differing_by bit
  other v = rw (cost_is v) (total_four (sent_of ps) _ _ (λ p h. each p h (eqb (bit w p) (bit v p)) refl))
    where
      each : (p : ℕ) → p < sent_of ps → (t : Bool) → eqb (bit w p) (bit v p) ≡ t → 4 * choose t 0 1 ≤ bit_cost (soft p) (bit v p)
      each p h true e = omega arith
      each p h false e = (clear p h).other (bit v p) (sent_low (listed ps a) v p) (λ same. eqb-false (bit w p) (bit v p) e (sym same))

  -- and it differs in one at least
  some_differ : (v : List ℕ) → Train (length_of ps) v → v ≢ w → 1 ≤ differing ps a w v
  unfolding differing differing_by sent_by
  some_differ v bits apart = go (eqb (differing ps a w v) 0) refl
    where
      go : (t : Bool) → eqb (differing ps a w v) 0 ≡ t → 1 ≤ differing ps a w v
      go true e =
          absurd (apart (sym (listed_unique ps a legal.fit.each legal.inside w v train bits
          (λ p h. eqb-true _ _ (none_differ _ (total_nothing (sent_of ps) _ (eqb-true _ 0 e) p h))))))
      go false e = omega (arith, eqb-false (differing ps a w v) 0 e)

  pub ideal_returned : Returned (length_of ps) (rounded_cost ps a (softened ps (read_i ps a w) (read_q ps a w))) w
  unfolding cost
  ideal_returned = record {
    train = train;
    least = λ v bits. omega (arith, own);
    ahead = λ v bits apart same. absurd (omega (arith, own, same, other v, some_differ v bits apart));
  }

  pub ideal_confirmed : Confirmed (length_of ps) (rounded_cost ps a (softened ps (read_i ps a w) (read_q ps a w))) (differing ps a) w
  unfolding cost Confirmed
  ideal_confirmed v bits apart = omega (arith, own, other v, some_differ v bits apart)

  pub ideal_cost : rounded_cost ps a (softened ps (read_i ps a w) (read_q ps a w)) w ≡ 0
  unfolding cost
  ideal_cost = own
