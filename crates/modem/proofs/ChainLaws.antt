-- `encode`, `ideal` and `decode_readings` one after the other: what the last one answers, by the promises of all three.
-- Assumes nothing.
use mathlib.Core.Path.{◌≡◌, refl, sym, ◌∙◌, ap, subst}
use mathlib.Core.Bool.{true, not}
use mathlib.Core.List.{List, [], ◌∷◌, ◌++◌}
use Prim.Native.Nat.{ℕ, suc, ◌+◌, ◌-◌, ◌*◌, ◌≤◌, ◌<◌}
use native.Mathlib.Omega.{arith}
use lib.IntN.{ℤ}
use lib.ListN.{length, get_or, take, drop}
use lib.Seq.{take_at, drop_at}
use borrow.Author.Tests.{lt-ltb, le-ltb, eq-eqb, eqb-true, not-false}
use Rattle.laws.specs.Ladder.{◌when◌, ladder}
use Rattle.laws.specs.Lists.{filled}
use Rattle.laws.proofs.LadderLaws.{ladder_front, ladder_passed, given_goes_on, given_passed}
use Rattle.laws.proofs.ListLaws.{tabulate_length, filled_take}
use Rattle.modes.specs.declared.Kind.{Kind}
use Rattle.modes.specs.Kinds.{heeded}
use Rattle.modes.specs.Sizes.{octets_of}
use Rattle.modes.specs.Pdus.{Pdu, length_of, symbols_of, carriers_of, sent_of}
use Rattle.modes.specs.Refusals.{length_outside, list_sized, list_described, encode_described, decode_described}
use Rattle.modes.proofs.RefusalLaws.{described_by, sized_by}
use Rattle.modes.proofs.KindLaws.{heeded_described, encode_described_lem, encode_legal, decode_passes}
use Rattle.places.specs.Trains.{listed}
use Rattle.points.specs.Levels.{all_bits}
use Rattle.trellis.specs.Wanted.{Returned, Confirmed}
use Rattle.trellis.proofs.CompareLaws.{formula_compares}
use Rattle.modem.specs.Entering.{entering}
use Rattle.modem.specs.Sent.{sent_by}
use Rattle.modem.specs.Encode.{sent_bit, encode_refusal, Encode}
use Rattle.modem.specs.Ideal.{list_i, list_q, ideal_refusal, Ideal}
use Rattle.modem.specs.Soften.{softened}
use Rattle.modem.specs.Costs.{rounded_cost, differing}
use Rattle.modem.specs.Decode.{Outcome, outcome, train_of, DecodedList, readings_refusal, DecodeReadings}
use Rattle.modem.specs.Demands.{GivenBack}
use Rattle.modem.proofs.LentLaws.{enough_room, lent_passed, all_done, done_passed, lent_passes}
use Rattle.modem.proofs.EnteringLaws.{entering_train}
use Rattle.modem.proofs.TrustLaws.{sent_low}
use Rattle.modem.proofs.ReturnLaws.{tabulate_low, sent_list, read_i, read_q, ideal_returned, ideal_confirmed, ideal_cost}
use Rattle.modem.proofs.Determined.{ideal_determined, decode_readings_determined}

-- where a description is not refused, its list is not
described_fits : (ps : List Pdu) (counter a : ℕ) → ladder (list_described ps counter a) ≡ 0 → ladder (list_sized ps) ≡ 0
described_fits ps counter a zero =
    let (tests, p) = given_passed _ _ (sym (described_by ps counter a) ∙ zero) in
    let (lens, p) = given_passed _ _ (ladder_passed 1 _ _ p).1 in
    sized_by ps ∙ given_goes_on _ _ tests ∙ given_goes_on _ _ lens ∙ ladder_front ((3 when length_outside (length_of ps)) ∷ []) _ tt p

pub decode_fits : (kind : Kind) (ps : List Pdu) (counter a : ℕ) → ladder (decode_described kind ps counter a) ≡ 0 → ladder (list_sized ps) ≡ 0
decode_fits kind ps counter a zero =
    described_fits ps (heeded kind counter) a (encode_described_lem kind ps (heeded kind counter) a (heeded_described kind ps counter a ∙ zero))

-- bits are bits
all_bits_lem : (l : List ℕ) → ((m : ℕ) → get_or l m 0 < 2) → all_bits l ≡ true
unfolding all_bits
all_bits_lem [] low = refl
all_bits_lem (x ∷ xs) low = rw (lt-ltb x 2 (low 0)) (all_bits_lem xs (λ m. low (suc m)))

module _ (kind : Kind) (ps : List Pdu) (counter a : ℕ) (octets sent sent' : List ℕ) (encoded : Encode kind ps counter a octets sent 0 sent') where
  -- what an encoding that is done says of its description and its octets
  described_zero : ladder (encode_described kind ps counter a) ≡ 0
  unfolding Encode encode_refusal
  described_zero = (done_passed _ _ _ _ _ _ _ _ encoded).0

  octets_count : length octets ≡ octets_of (length_of ps)
  unfolding Encode encode_refusal
  octets_count = eqb-true _ _ (not-false _ (lent_passed 11 _ _ _ (done_passed _ _ _ _ _ _ _ _ encoded).1).0)

  -- the train that is sent
  abbrev w : List ℕ
  w = entering kind counter (length_of ps) octets

  sent_front : take (sent_of ps) sent' ≡ sent_list ps a w
  unfolding Encode sent_bit
  sent_front = ap (take (sent_of ps)) (encoded.done refl) ∙ filled_take (sent_of ps) (sent_bit kind ps counter a octets) sent

  module _ (i q : List ℤ) (room_i : carriers_of ps ≤ length i) (room_q : carriers_of ps ≤ length q) where
    -- the ideal readings that are then wanted
    ideal_wanted : Ideal ps (sent_list ps a w) i q 0
        (filled (carriers_of ps) (list_i ps (sent_list ps a w)) i)
        (filled (carriers_of ps) (list_q ps (sent_list ps a w)) q)
    unfolding Ideal ideal_refusal
    ideal_wanted =
        let bits = all_bits_lem (sent_list ps a w) (tabulate_low (sent_of ps) (sent_by (listed ps a) w) (sent_low (listed ps a) w)) in
        all_done _ _ _ _ _ _ _ (described_fits ps counter a (encode_described_lem kind ps counter a described_zero))
        (lent_passes 9 _ _ _
        (simp (eq-eqb _ _ (tabulate_length (sent_of ps) (sent_by (listed ps a) w))))
        (simp (le-ltb _ _ room_i, le-ltb _ _ room_q))
        (ap not bits))
        _ refl

    -- and `ideal` gives them
    pub chain_ideal : (r : ℕ) (i' q' : List ℤ) → Ideal ps (take (sent_of ps) sent') i q r i' q'
        → (r ≡ 0) × (take (carriers_of ps) i' ≡ read_i ps a w) × (take (carriers_of ps) q' ≡ read_q ps a w)
    chain_ideal r i' q' h =
        let (done, on_i, on_q) = ideal_determined ps (sent_list ps a w) i q r 0 i' q' _ _ (rw sent_front at h) ideal_wanted in (
          done,
          ap (take (carriers_of ps)) on_i ∙ filled_take (carriers_of ps) _ i,
          ap (take (carriers_of ps)) on_q ∙ filled_take (carriers_of ps) _ q,
        )

  -- the outcome that is wanted of ideal readings: the octets, at no cost and confirmed, by as many comparisons as ever
  given : (octets₀ words₀ : List ℕ) → Outcome
  given octets₀ words₀ =
      outcome (symbols_of ps) (sent_of ps) 0 true (64 * (length_of ps - 6) + 63) (octets ++ drop (octets_of (length_of ps)) octets₀) (filled (length_of ps + 6) (λ _. 0) words₀)

  module _ (low : (k : ℕ) → get_or octets k 0 < 256) (octets₀ words₀ : List ℕ) where
    front : take (octets_of (length_of ps)) (octets ++ drop (octets_of (length_of ps)) octets₀) ≡ octets
    front = take_at octets (drop (octets_of (length_of ps)) octets₀) (octets_of (length_of ps)) octets_count

    given_decoded : DecodedList kind ps counter a (softened ps (read_i ps a w) (read_q ps a w)) octets₀ words₀ (given octets₀ words₀)
    unfolding given train_of
    given_decoded =
        let N : ℕ = length_of ps in
        let legal = encode_legal kind ps counter a described_zero in
        let train = entering_train kind counter N octets in
        let is : train_of kind counter N (octets ++ drop (octets_of N) octets₀) ≡ w = ap (entering kind counter N) front in
        let soft : List ℤ = softened ps (read_i ps a w) (read_q ps a w) in
        record {
          chosen = record {
            returned = subst (Returned N (rounded_cost ps a soft)) (sym is) (ideal_returned ps counter a legal w train);
            costs = sym (ap (rounded_cost ps a soft) is ∙ ideal_cost ps counter a legal w train);
            only_then = λ _. subst (Confirmed N (rounded_cost ps a soft) (differing ps a)) (sym is) (ideal_confirmed ps counter a legal w train);
            always_then = λ _. refl;
            compared = formula_compares N _ (omega (arith, legal.inside)) refl;
            octets_low = rw front (record { count = octets_count; low = λ j h. low j });
            kept = drop_at octets (drop (octets_of N) octets₀) (octets_of N) octets_count;
            zeroed = refl;
          };
          all_symbols = refl;
          all_sent = refl;
        }

    given_wanted : octets_of (length_of ps) ≤ length octets₀ → length_of ps + 6 ≤ length words₀
        → DecodeReadings kind ps counter a (read_i ps a w) (read_q ps a w) octets₀ words₀ 0 (given octets₀ words₀)
    unfolding DecodeReadings readings_refusal
    given_wanted room_o room_w =
        all_done _ _ _ _ _ _ _ (decode_passes kind ps counter a described_zero)
        (lent_passes 9 _ _ _
        (simp (
          eq-eqb _ _ (tabulate_length (carriers_of ps) (list_i ps (sent_list ps a w))),
          eq-eqb _ _ (tabulate_length (carriers_of ps) (list_q ps (sent_list ps a w))),
        ))
        (simp (le-ltb _ _ room_o, le-ltb _ _ room_w))
        refl)
        _ given_decoded

    -- and `decode_readings` gives it
    pub chain_decoded : (i q : List ℤ) → i ≡ read_i ps a w → q ≡ read_q ps a w → octets_of (length_of ps) ≤ length octets₀ → length_of ps + 6 ≤ length words₀
        → (r : ℕ) (o : Outcome) → DecodeReadings kind ps counter a i q octets₀ words₀ r o → GivenBack (length_of ps) octets r o
    unfolding given
    chain_decoded i q on_i on_q room_o room_w r o h =
        let (done, same) = decode_readings_determined kind ps counter a _ _ octets₀ words₀ r 0 o (given octets₀ words₀) (rw (on_i, on_q) at h) (given_wanted room_o room_w) in
        rw same (record { done = done; back = front; no_cost = refl; sure = refl })

-- what a call that is done says of the room that it was lent
ideal_room : (ps : List Pdu) (sent : List ℕ) (i q i' q' : List ℤ) → Ideal ps sent i q 0 i' q' → (carriers_of ps ≤ length i) × (carriers_of ps ≤ length q)
unfolding Ideal ideal_refusal
ideal_room ps sent i q i' q' h = enough_room _ _ _ _ (lent_passed 8 _ _ _ (done_passed _ _ _ _ _ _ _ _ h).1).1

readings_room : (kind : Kind) (ps : List Pdu) (counter a : ℕ) (i q : List ℤ) (octets words : List ℕ) (o : Outcome) → DecodeReadings kind ps counter a i q octets words 0 o
    → (octets_of (length_of ps) ≤ length octets) × (length_of ps + 6 ≤ length words)
unfolding DecodeReadings readings_refusal
readings_room kind ps counter a i q octets words o h = enough_room _ _ _ _ (lent_passed 8 _ _ _ (done_passed _ _ _ _ _ _ _ _ h).1).1

-- three calls that are done one after the other
pub chain_done : (kind : Kind) (ps : List Pdu) (counter a : ℕ) (octets sent sent' : List ℕ) (i q i' q' : List ℤ) (octets₀ words₀ : List ℕ) (o : Outcome)
    → ((k : ℕ) → get_or octets k 0 < 256)
    → Encode kind ps counter a octets sent 0 sent'
    → Ideal ps (take (sent_of ps) sent') i q 0 i' q'
    → DecodeReadings kind ps counter a (take (carriers_of ps) i') (take (carriers_of ps) q') octets₀ words₀ 0 o
    → GivenBack (length_of ps) octets 0 o
chain_done kind ps counter a octets sent sent' i q i' q' octets₀ words₀ o low encoded read decoded =
    let (room_i, room_q) = ideal_room ps _ i q i' q' read in
    let (room_o, room_w) = readings_room kind ps counter a _ _ octets₀ words₀ o decoded in
    let (_, on_i, on_q) = chain_ideal kind ps counter a octets sent sent' encoded i q room_i room_q 0 i' q' read in
    chain_decoded kind ps counter a octets sent sent' encoded low octets₀ words₀ _ _ on_i on_q room_o room_w 0 o decoded
