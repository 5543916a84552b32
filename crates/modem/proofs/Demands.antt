-- THE THREE DEMANDS, each from the promises of the calls: it speaks of what the calls do. And of a later request, how many comparisons a
-- decode reports.
-- Assumes nothing.
use mathlib.Core.Path.{◌≡◌, refl, sym, ◌∙◌, ap}
use mathlib.Core.List.{List}
use Prim.Native.Nat.{ℕ, ◌+◌, ◌≤◌, ◌<◌}
use native.Mathlib.Omega.{arith}
use lib.Ieee.{Float}
use lib.IntN.{ℤ, pos}
use lib.ListN.{length, get_or, take, drop}
use Rattle.laws.specs.Ladder.{ladder}
use Rattle.laws.specs.Lists.{filled}
use Rattle.laws.specs.Answers.{Leaves}
use Rattle.laws.proofs.LadderLaws.{given_passed}
use Rattle.laws.proofs.ListLaws.{filled_at, filled_drop}
use Rattle.modes.specs.declared.Kind.{Kind}
use Rattle.modes.specs.declared.Kind.TheVariants.{Bch}
use Rattle.modes.specs.Kinds.{heeded}
use Rattle.modes.specs.Sizes.{octets_of}
use Rattle.modes.specs.Pdus.{Pdu, one, sum_of, length_of, carriers_of, sent_of}
use Rattle.modes.specs.Refusals.{encode_described, decode_described}
use Rattle.modes.proofs.KindLaws.{encode_legal, decode_legal, bch_described}
use Rattle.trellis.specs.Wanted.{Returned, Confirmed}
use Rattle.trellis.specs.Compared.{Comparisons}
use Rattle.trellis.proofs.WantedLaws.{returned_unique}
use Rattle.trellis.proofs.CompareLaws.{compares_formula}
use Rattle.unique.specs.Sameness.{Octets}
use Rattle.modem.specs.Entering.{entering}
use Rattle.modem.specs.Sent.{sent_by}
use Rattle.modem.specs.Encode.{sent_bit, encode_refusal, Encode}
use Rattle.modem.specs.Ideal.{list_i, list_q, ideal_refusal, Ideal}
use Rattle.modem.specs.Point.{plus_zero, mapped_refusal, MapsTo}
use Rattle.modem.specs.Soften.{softened, soften_refusal, Soften}
use Rattle.modem.specs.Costs.{rounded_cost}
use Rattle.modem.specs.Decode.{Outcome, nothing, train_of, soft_refusal, DecodeSoft, readings_refusal, DecodeReadings}
use Rattle.modem.specs.Demands.{RefusesAs, SentAs, EntersAs, ReadAs, PointAs, ReturnedAs, GivenBack, Trusted, ComparedAs}
use Rattle.modem.proofs.LentLaws.{lent_passed, done_passed}
use Rattle.modem.proofs.SizeLaws.{octets_whole}
use Rattle.modem.proofs.EnteringLaws.{own_counter, bch_enters, entering_unique}
use Rattle.modem.proofs.HeededLaws.{heeded_readings}
use Rattle.modem.proofs.ChainLaws.{chain_ideal, chain_decoded}
use Rattle.modem.proofs.TrustLaws.{differing_count, costs_near}

-- ---- 1: which refusal each call gives, for all inputs, and that it leaves all buffers

refuses : {B : Type 0} (number : ℕ) (Wanted : B → Type 0) (before : B) (r : ℕ) (left : B) → Leaves number Wanted before r left → RefusesAs number before r left
refuses number Wanted before r left h = record { which = h.answer; leaves = h.refused }

pub demand_1_encode : (kind : Kind) (ps : List Pdu) (counter a : ℕ) (octets sent : List ℕ) (r : ℕ) (sent' : List ℕ)
    → Encode kind ps counter a octets sent r sent' → RefusesAs (encode_refusal kind ps counter a octets sent) sent r sent'
unfolding Encode
demand_1_encode kind ps counter a octets sent r sent' h = refuses _ _ _ _ _ h

pub demand_1_ideal : (ps : List Pdu) (sent : List ℕ) (i q : List ℤ) (r : ℕ) (i' q' : List ℤ)
    → Ideal ps sent i q r i' q' → RefusesAs {B = List ℤ × List ℤ} (ideal_refusal ps sent i q) (i, q) r (i', q')
unfolding Ideal
demand_1_ideal ps sent i q r i' q' h = refuses _ _ _ _ _ h

pub demand_1_mapped : (mode group r : ℕ) (i q : Float)
    → MapsTo mode group r i q → RefusesAs {B = Float × Float} (mapped_refusal mode group) (plus_zero, plus_zero) r (i, q)
unfolding MapsTo
demand_1_mapped mode group r i q h = refuses _ _ _ _ _ h

pub demand_1_soften : (ps : List Pdu) (i q soft : List ℤ) (r : ℕ) (soft' : List ℤ)
    → Soften ps i q soft r soft' → RefusesAs (soften_refusal ps i q soft) soft r soft'
unfolding Soften
demand_1_soften ps i q soft r soft' h = refuses _ _ _ _ _ h

pub demand_1_decode_soft : (kind : Kind) (ps : List Pdu) (counter a : ℕ) (soft : List ℤ) (octets words : List ℕ) (r : ℕ) (o : Outcome)
    → DecodeSoft kind ps counter a soft octets words r o → RefusesAs (soft_refusal kind ps counter a soft octets words) (nothing octets words) r o
unfolding DecodeSoft
demand_1_decode_soft kind ps counter a soft octets words r o h = refuses _ _ _ _ _ h

pub demand_1_decode_readings : (kind : Kind) (ps : List Pdu) (counter a : ℕ) (i q : List ℤ) (octets words : List ℕ) (r : ℕ) (o : Outcome)
    → DecodeReadings kind ps counter a i q octets words r o → RefusesAs (readings_refusal kind ps counter a i q octets words) (nothing octets words) r o
unfolding DecodeReadings
demand_1_decode_readings kind ps counter a i q octets words r o h = refuses _ _ _ _ _ h

-- ---- 2: what is sent, what is returned, and that ideal readings give a sent train back

pub demand_2_sent : (kind : Kind) (ps : List Pdu) (counter a : ℕ) (octets sent sent' : List ℕ)
    → Encode kind ps counter a octets sent 0 sent' → SentAs kind ps counter a octets sent sent'
unfolding Encode
demand_2_sent kind ps counter a octets sent sent' h =
    let n : ℕ = sent_of ps in
    let is = h.done refl in
    record {
      bits = λ q inside. ap (λ l. get_or l q 0) is ∙ filled_at n (sent_bit kind ps counter a octets) sent q 0 inside;
      kept = ap (drop n) is ∙ filled_drop n (sent_bit kind ps counter a octets) sent;
    }

-- a BCH that is sent is one PDU of 120 bits, mode 1, a = 0, and enters the encoder as clause 5.2 says
pub demand_2_bch : (ps : List Pdu) (counter a : ℕ) (octets sent sent' : List ℕ) → Encode Bch ps counter a octets sent 0 sent'
    → (ps ≡ one 1 120) × (a ≡ 0) × EntersAs counter octets (entering Bch counter (length_of ps) octets)
unfolding Encode encode_refusal sum_of
demand_2_bch ps counter a octets sent sent' h =
    let (zero, rest) = done_passed _ _ _ _ _ _ _ _ h in
    let (one_list, no_a) = bch_described ps counter a zero in
    let own = own_counter Bch counter octets (lent_passed 11 _ _ _ rest).2 in
    (one_list, no_a, rw one_list (bch_enters counter octets own))

pub demand_2_ideal : (ps : List Pdu) (sent : List ℕ) (i q i' q' : List ℤ) → Ideal ps sent i q 0 i' q' → ReadAs ps sent i' q'
unfolding Ideal
demand_2_ideal ps sent i q i' q' h =
    let is = h.done refl in
    let n : ℕ = carriers_of ps in
    let same_i : i' ≡ filled n (list_i ps sent) i = λ t. (is t).0 in
    let same_q : q' ≡ filled n (list_q ps sent) q = λ t. (is t).1 in
    record {
      on_i = λ k inside. ap (λ l. get_or l k (pos 0)) same_i ∙ filled_at n (list_i ps sent) i k (pos 0) inside;
      on_q = λ k inside. ap (λ l. get_or l k (pos 0)) same_q ∙ filled_at n (list_q ps sent) q k (pos 0) inside;
    }

pub demand_2_point : (mode group : ℕ) (i q : Float) → MapsTo mode group 0 i q → PointAs mode group i q
unfolding MapsTo
demand_2_point mode group i q h = let is = h.done refl in record { on_i = λ t. (is t).0; on_q = λ t. (is t).1 }

pub demand_2_decode_soft : (kind : Kind) (ps : List Pdu) (counter a : ℕ) (soft : List ℤ) (octets words : List ℕ) (o : Outcome)
    → DecodeSoft kind ps counter a soft octets words 0 o → ReturnedAs kind ps counter a soft o
unfolding DecodeSoft
demand_2_decode_soft kind ps counter a soft octets words o h =
    let chosen = (h.done refl).chosen in record { returned = chosen.returned; costs = chosen.costs }

pub demand_2_decode_readings : (kind : Kind) (ps : List Pdu) (counter a : ℕ) (i q : List ℤ) (octets words : List ℕ) (o : Outcome)
    → DecodeReadings kind ps counter a i q octets words 0 o → ReturnedAs kind ps counter a (softened ps i q) o
unfolding DecodeReadings
demand_2_decode_readings kind ps counter a i q octets words o h =
    let chosen = (h.done refl).chosen in record { returned = chosen.returned; costs = chosen.costs }

-- two trains that are both returned are equal
pub demand_2_one : (ps : List Pdu) (a : ℕ) (soft : List ℤ) (w v : List ℕ)
    → Returned (length_of ps) (rounded_cost ps a soft) w → Returned (length_of ps) (rounded_cost ps a soft) v → w ≡ v
demand_2_one ps a soft w v = returned_unique

-- octets of one description with the same sent bits are the same
pub demand_2_apart : (kind : Kind) (ps : List Pdu) (counter a : ℕ) → ladder (encode_described kind ps counter a) ≡ 0
    → (s r : List ℕ) → Octets (octets_of (length_of ps)) s → Octets (octets_of (length_of ps)) r
    → ((q : ℕ) → q < sent_of ps → sent_bit kind ps counter a s q ≡ sent_bit kind ps counter a r q) → s ≡ r
unfolding sent_bit sent_by
demand_2_apart kind ps counter a zero s r hs hr same =
    let legal = encode_legal kind ps counter a zero in
    entering_unique kind ps counter a legal.fit.each legal.inside (octets_whole ps legal.fit.each) s r hs hr same

-- ideal readings of a sent train give that train back, whatever else the buffers held, and whatever counter a decode does not heed
pub demand_2_given_back : (kind : Kind) (ps : List Pdu) (counter counter' a : ℕ) (octets sent sent' : List ℕ) (i q i' q' : List ℤ) (octets₀ words₀ : List ℕ) (r r' : ℕ) (o : Outcome)
    → ((k : ℕ) → get_or octets k 0 < 256)
    → Encode kind ps counter a octets sent 0 sent'
    → carriers_of ps ≤ length i → carriers_of ps ≤ length q
    → Ideal ps (take (sent_of ps) sent') i q r i' q'
    → octets_of (length_of ps) ≤ length octets₀ → length_of ps + 6 ≤ length words₀
    → heeded kind counter' ≡ heeded kind counter
    → DecodeReadings kind ps counter' a (take (carriers_of ps) i') (take (carriers_of ps) q') octets₀ words₀ r' o
    → (r ≡ 0) × GivenBack (length_of ps) octets r' o
demand_2_given_back kind ps counter counter' a octets sent sent' i q i' q' octets₀ words₀ r r' o low encoded room_i room_q read room_o room_w heeds decoded =
    let (done, on_i, on_q) = chain_ideal kind ps counter a octets sent sent' encoded i q room_i room_q r i' q' read in
    let by_counter = heeded_readings kind ps counter' counter a _ _ octets₀ words₀ r' o heeds decoded in
    (done, chain_decoded kind ps counter a octets sent sent' encoded low octets₀ words₀ _ _ on_i on_q room_o room_w r' o by_counter)

-- ---- 3: how far the returned train can be trusted

pub demand_3 : (kind : Kind) (ps : List Pdu) (counter a : ℕ) (i q : List ℤ) (octets words : List ℕ) (o : Outcome)
    → DecodeReadings kind ps counter a i q octets words 0 o → Trusted kind ps counter a i q o
unfolding DecodeReadings Confirmed
demand_3 kind ps counter a i q octets words o h =
    let chosen = (h.done refl).chosen in
    let w : List ℕ = train_of kind counter (length_of ps) o.octets in
    record {
      near = λ v train. omega (arith, chosen.returned.least v train, costs_near ps a i q w v, differing_count ps a w v);
      only_then = chosen.only_then;
      always_then = chosen.always_then;
      alone = λ sure v train apart. omega (arith, chosen.only_then sure v train apart, costs_near ps a i q w v);
    }

-- ---- a later request: how many comparisons a decode reports

-- a decode that is not refused has 72 bits at least
long : (kind : Kind) (ps : List Pdu) (counter a : ℕ) → ladder (decode_described kind ps counter a) ≡ 0 → 6 ≤ length_of ps
long kind ps counter a zero = omega (arith, (decode_legal kind ps counter a zero).inside)

compared : (ps : List Pdu) (number : ℕ) (Wanted : Outcome → Type 0) (octets words : List ℕ) (r : ℕ) (o : Outcome)
    → (number ≡ 0 → 6 ≤ length_of ps) → (Wanted o → Comparisons (length_of ps) o.comparisons)
    → Leaves number Wanted (nothing octets words) r o → ComparedAs (length_of ps) r o.comparisons
compared ps number Wanted octets words r o fits wanted h = record {
  counted = λ z. wanted (h.done z);
  formula = λ z. compares_formula (length_of ps) _ (fits (sym h.answer ∙ z)) (wanted (h.done z));
  none = λ no. ap (λ (x : Outcome). x.comparisons) (h.refused no);
}

pub comparisons_decode_soft : (kind : Kind) (ps : List Pdu) (counter a : ℕ) (soft : List ℤ) (octets words : List ℕ) (r : ℕ) (o : Outcome)
    → DecodeSoft kind ps counter a soft octets words r o → ComparedAs (length_of ps) r o.comparisons
unfolding DecodeSoft soft_refusal
comparisons_decode_soft kind ps counter a soft octets words r o =
    compared ps _ _ octets words r o (λ zero. long kind ps counter a (given_passed _ _ zero).0) (λ w. w.chosen.compared)

pub comparisons_decode_readings : (kind : Kind) (ps : List Pdu) (counter a : ℕ) (i q : List ℤ) (octets words : List ℕ) (r : ℕ) (o : Outcome)
    → DecodeReadings kind ps counter a i q octets words r o → ComparedAs (length_of ps) r o.comparisons
unfolding DecodeReadings readings_refusal
comparisons_decode_readings kind ps counter a i q octets words r o =
    compared ps _ _ octets words r o (λ zero. long kind ps counter a (given_passed _ _ zero).0) (λ w. w.chosen.compared)
