-- A train PDU by PDU: what each PDU is lent, and what stands in the buffers after k of them.
-- Assumes nothing.
use mathlib.Core.Path.{◌≡◌, refl, sym, ◌∙◌, ap}
use mathlib.Core.List.{List, ◌∷◌, ◌++◌}
use Prim.Native.Nat.{ℕ, suc, ◌+◌, ◌-◌, ◌*◌, ◌≤◌, ◌<◌}
use native.Mathlib.Omega.{arith}
use lib.IntN.{ℤ, pos}
use lib.ListN.{length, get_or, take, drop}
use lib.Seq.{split_at, get_or-drop}
use Rattle.laws.specs.Lists.{filled}
use Rattle.laws.specs.Scatter.{Placed}
use Rattle.laws.specs.Signed.{counted}
use Rattle.laws.proofs.ListLaws.{part_all, filled_length, filled_part}
use Rattle.laws.proofs.ScatterLaws.{placed_on}
use Rattle.modes.specs.declared.Constellation.{Constellation}
use Rattle.modes.specs.declared.Rate.{Rate}
use Rattle.modes.specs.declared.train.Train.{Train}
use Rattle.modes.specs.Modes.{bits_of, info_of, number, number_of}
use Rattle.modes.specs.Sizes.{symbols, sent_bits}
use Rattle.modes.specs.Pdus.{Pdu, pdu_of, sum_of, pdu_sent, length_of, sent_of}
use Rattle.modes.specs.Description.{Fit, FitList, held}
use Rattle.modes.specs.Passed.{pdus_in}
use Rattle.modes.proofs.ModeLaws.{by_enums}
use Rattle.modes.proofs.SizeLaws.{symbols_exact, sent_of_within}
use Rattle.modes.proofs.PduLaws.{sum_most}
use Rattle.modes.proofs.DescriptionLaws.{pdu_at, count_in, pdus_in_length, pdus_in_at, fit_in, held_fit, held_sum, held_all}
use Rattle.places.specs.Selection.{origin}
use Rattle.places.specs.Puncture.{p1}
use Rattle.places.specs.Trains.{pdu, pdus, listed}
use Rattle.places.specs.Sending.{symbol_bits, origin_of, pdu_bit, PduRoom, Spread, train_bit, TrainRoom}
use Rattle.places.proofs.TrainLaws.{takes_listed, origin_share}
use Rattle.places.proofs.SourceLaws.{origin_once, pdu_sources, pdu_enums}

-- the sent bits, and the information bits, of a PDU by its two enums
module _ (c : Constellation) (rate : Rate) (N : ℕ) (fit : Fit (number_of c rate) N) where
  pub sent_by_enums : symbol_bits (bits_of c) (symbols (number_of c rate) N) ≡ sent_bits (number_of c rate) N
  unfolding sent_bits
  sent_by_enums = ap (λ (n : ℕ). symbols (number_of c rate) N * n) (sym (by_enums c rate fit.from_1 fit.to_7).1)

  info_by_enums : symbols (number_of c rate) N * info_of c rate ≡ N
  info_by_enums = rw (← (by_enums c rate fit.from_1 fit.to_7).2) (symbols_exact (number_of c rate) N fit)

-- where PDU k begins: in P1's output, and among the sent bits
pub record Begins (t : Train) (k first at : ℕ) : Type 0 where
  pub first_is : first ≡ 2 * length_of (take k (pdus_in t))
  pub at_is : at ≡ sent_of (take k (pdus_in t))

pub begins_none : (t : Train) → Begins t 0 0 0
unfolding sum_of
begins_none t = record { first_is = refl; at_is = refl }

module _ (t : Train) (k first at : ℕ) (b : Begins t k first at) where
  abbrev ps : List Pdu
  ps = pdus_in t

  fit : FitList (pdus_in t)
  fit = fit_in t

  -- no more than the whole train
  pub begins_small : (first ≤ 6912) × (at ≤ 6912) × (at ≤ sent_of (pdus_in t))
  begins_small =
      let few = sum_most pdu_sent ps k in (
        omega (arith, b.first_is, sum_most (λ p. p.length) ps k, fit.to_3456),
        omega (arith, b.at_is, few, sent_of_within ps fit.each, fit.to_3456),
        omega (arith, b.at_is, few),
      )

  module _ (h : k < count_in t) where
    abbrev c : Constellation
    c = (pdu_at t k).mode.constellation

    abbrev rate : Rate
    rate = (pdu_at t k).mode.rate

    abbrev N : ℕ
    N = (pdu_at t k).n

    pub pdu_fit : Fit (number (pdu_at t k).mode) (pdu_at t k).n
    pdu_fit = held_fit t k h

    -- the next PDU begins behind this one
    pub begins_again : (n : ℕ) → n ≡ sent_bits (number (pdu_at t k).mode) (pdu_at t k).n → Begins t (k + 1) (first + 2 * (pdu_at t k).n) (at + n)
    begins_again n e = record {
      first_is = omega (arith, b.first_is, held_sum t k h (λ p. p.length));
      at_is = omega (arith, b.at_is, e, held_sum t k h pdu_sent);
    }

    -- its sent bits and those before it are not more than all, and likewise its information bits
    pub sent_inside : at + sent_bits (number (pdu_at t k).mode) (pdu_at t k).n ≤ sent_of (pdus_in t)
    sent_inside = omega (arith, b.at_is, held_sum t k h pdu_sent, sum_most pdu_sent ps (k + 1))

    share_inside : first + 2 * N ≤ 2 * length_of ps
    share_inside = omega (arith, b.first_is, held_sum t k h (λ p. p.length), sum_most (λ p. p.length) ps (k + 1))

    pub pdu_room : (coded sent lent : ℕ) → TrainRoom (pdus_in t) t.a coded sent → lent + at ≡ sent
        → PduRoom (bits_of (pdu_at t k).mode.constellation) (pdu_at t k).mode.rate (symbols (number (pdu_at t k).mode) (pdu_at t k).n) t.a first coded lent
    pdu_room coded sent lent room el =
        let all = sent_by_enums c rate N pdu_fit in
        let whole = info_by_enums c rate N pdu_fit in
        record {
          place = omega (arith, room.inside, fit.to_3456);
          few = omega (arith, all, sent_inside, sent_of_within ps fit.each, fit.to_3456);
          room = omega (arith, all, sent_inside, room.room);
          sources = pdu_sources c rate t.a first (symbols (number_of c rate) N) (length_of ps) coded (omega (arith, whole, share_inside)) fit.to_3456 room.inside room.all_coded;
        }

    -- its sent bit q is the train's sent bit at + q
    share_origin : (q : ℕ) → q < sent_bits (number_of c rate) N → origin_of (bits_of c) rate t.a first q ≡ origin (listed ps t.a) (at + q)
    unfolding origin_of listed origin
    share_origin q less =
        let none = pdu_of 0 0 in
        let here : get_or ps k none ≡ held (pdu_at t k) = pdus_in_at t k h none in
        let split : ps ≡ take k ps ++ held (pdu_at t k) ∷ drop (suc k) ps =
        split_at ps k none (omega (arith, pdus_in_length t)) ∙ ap (λ (p : Pdu). take k ps ++ p ∷ drop (suc k) ps) here
        in
        let share : origin (pdus ps) (sent_of (take k ps) + q) ≡ 2 * length_of (take k ps) + origin (pdu (number_of c rate)) q =
        ap (λ (l : List Pdu). origin (pdus l) (sent_of (take k ps) + q)) split ∙ origin_share (take k ps) (held (pdu_at t k)) (drop (suc k) ps) q less
        in
        ap (origin (p1 t.a))
        (rw (pdu_enums c rate pdu_fit.from_1 pdu_fit.to_7, b.first_is, b.at_is) (sym share))

    -- the PDU's sent bits at the front of what is left of the buffer
    pub sent_on : (coded l₀ l part : List ℕ) (n : ℕ) → sent_of (pdus_in t) ≤ length l₀
        → l ≡ filled at (train_bit (pdus_in t) t.a coded) l₀
        → n ≡ sent_bits (number (pdu_at t k).mode) (pdu_at t k).n
        → part
        ≡ filled (symbol_bits (bits_of (pdu_at t k).mode.constellation) (symbols (number (pdu_at t k).mode) (pdu_at t k).n))
        (pdu_bit (bits_of (pdu_at t k).mode.constellation) (pdu_at t k).mode.rate t.a first coded)
        (take (length l - at) (drop at l))
        → take at l ++ (part ++ drop (length l - at) (drop at l)) ≡ filled (at + n) (train_bit (pdus_in t) t.a coded) l₀
    unfolding pdu_bit train_bit
    sent_on coded l₀ l part n room is en written =
        let count = sent_by_enums c rate N pdu_fit ∙ sym en in
        let lent : length l ≡ length l₀ = ap length is ∙ filled_length at _ l₀ (omega (arith, begins_small.2)) in
        ap (λ (x : List ℕ). take at l ++ (x ++ drop (length l - at) (drop at l)))
        (written ∙ ap (λ (m : ℕ). filled m (pdu_bit (bits_of c) rate t.a first coded) (take (length l - at) (drop at l))) count)
        ∙ filled_part at n (length l - at) (train_bit ps t.a coded) (pdu_bit (bits_of c) rate t.a first coded) l₀ l is
        (omega (arith, lent, en, sent_inside)) (omega (arith, en, sent_inside))
        (λ j h. ap (λ (m : ℕ). get_or coded m 0) (share_origin j (rw en at h)))

    -- the PDU's soft bytes, from the front of what is left of them
    pub spread_on : t.a + 72 ≤ length_of (pdus_in t) → (soft : List ℤ) (l₀ l l' : List ℕ) (n : ℕ)
        → Placed (origin (listed (pdus_in t) t.a)) (λ q. counted 128 (get_or soft q (pos 0))) at l₀ l
        → n ≡ sent_bits (number (pdu_at t k).mode) (pdu_at t k).n
        → Spread (bits_of (pdu_at t k).mode.constellation) (pdu_at t k).mode.rate t.a first
        (symbol_bits (bits_of (pdu_at t k).mode.constellation) (symbols (number (pdu_at t k).mode) (pdu_at t k).n))
        (take (length soft - at) (drop at soft)) l l'
        → Placed (origin (listed (pdus_in t) t.a)) (λ q. counted 128 (get_or soft q (pos 0))) (at + n) l₀ l'
    unfolding Spread
    spread_on inside soft l₀ l l' n before en spread =
        let count = sent_by_enums c rate N pdu_fit ∙ sym en in
        let takes = takes_listed ps t.a fit.each inside in
        placed_on _ _ at l₀ l before _ _ n l' (rw count at spread)
        (λ j h. (
          share_origin j (rw en at h),
          ap (λ (x : List ℤ). counted 128 (get_or x j (pos 0))) (part_all at soft) ∙ ap (counted 128) (get_or-drop at soft j (pos 0)),
        ))
        (λ i j less h same.
        let once : i ≡ j = origin_once (listed ps t.a) _ _ takes i j (omega (arith, en, sent_inside)) (omega (arith, en, sent_inside)) same in
        omega arith)

-- past the last PDU all sent bits have been passed
pub begins_all : (t : Train) (k first at : ℕ) → Begins t k first at → count_in t ≤ k → at ≡ sent_of (pdus_in t)
begins_all t k first at b h = b.at_is ∙ held_all t pdu_sent k h
