-- A LIST OF ONE PDU OF DATA IS DOCUMENT 01'S TRAIN: each definition that the calls cite is then the one of OneMode, and so is what they promise.
-- Assumes nothing.
use mathlib.Core.Path.{◌≡◌, refl, sym, ◌∙◌, ap, ap₂}
use mathlib.Core.List.{List, [], ◌∷◌, ◌++◌}
use Prim.Native.Nat.{ℕ, ◌<◌}
use native.Mathlib.Nat.{add-zero}
use lib.Dec.{eqb}
use lib.IntN.{ℤ, pos}
use lib.ListN.{get_or}
use borrow.Author.Tests.{lt-ltb}
use Rattle.laws.specs.Ladder.{Rung, given, ladder}
use Rattle.laws.specs.Lists.{choose}
use Rattle.laws.proofs.LadderLaws.{ladder_part}
use Rattle.laws.proofs.ListLaws.{tabulate_ext, filled_same}
use Rattle.laws.proofs.SumLaws.{total_ext}
use Rattle.modes.specs.declared.Kind.TheVariants.{Data}
use Rattle.modes.specs.Modes.{constellation_of}
use Rattle.modes.specs.Sizes.{symbols, carriers, sent_bits}
use Rattle.modes.specs.Pdus.{Pdu, pdu_of, one, sum_of, share_of, length_of, symbols_of, carriers_of, sent_of, pdu_carriers, pdu_sent}
use Rattle.modes.specs.Refusals.{lengths, sized, described}
use Rattle.modes.proofs.PduLaws.{share}
use Rattle.modes.proofs.RefusalLaws.{one_described, one_sized}
use Rattle.places.specs.Trains.{train, listed}
use Rattle.places.proofs.TrainLaws.{one_pdu_origin}
use Rattle.coder.specs.Encoder.{tailed, coded}
use Rattle.coder.specs.Scrambler.{scrambled}
use Rattle.points.specs.Points.{ideal_i, ideal_q}
use Rattle.soft.specs.Soft.{rounded, bit_cost}
use Rattle.soft.specs.Carriers.{exact_at, soft_at}
use Rattle.trellis.specs.Wanted.{Returned, Confirmed}
use Rattle.modem.specs.DataTrain as before
use Rattle.modem.specs.OneMode as alone
use Rattle.modem.specs.Sent.{sent_by, cost_by, differing_by}
use Rattle.modem.specs.Encode.{Encode}
use Rattle.modem.specs.Ideal.{ideal_by, list_i, list_q, ideal_refusal, Ideal}
use Rattle.modem.specs.Soften.{exact_by, list_exact, list_soft, softened, soften_refusal, Soften}
use Rattle.modem.specs.Costs.{rounded_cost, exact_cost, differing}
use Rattle.modem.specs.Decode.{Outcome, DecodeSoft, DecodeReadings}
use Rattle.modem.proofs.Data.{data_encode, data_decode_soft, data_decode_readings}

module _ (mode N : ℕ) where
  -- what a description is refused for as one rung, or test by test
  described_first : (counter a : ℕ) (rest : List Rung)
      → ladder (given (ladder (described mode counter N a)) ∷ rest) ≡ ladder (described mode counter N a ++ rest)
  unfolding described lengths
  described_first counter a rest = sym (ladder_part (described mode counter N a) rest tt)

  sized_first : (rest : List Rung) → ladder (given (ladder (sized mode N)) ∷ rest) ≡ ladder (sized mode N ++ rest)
  unfolding sized lengths
  sized_first rest = sym (ladder_part (sized mode N) rest tt)

  -- sums over one PDU
  one_sum : (size : Pdu → ℕ) → sum_of size (one mode N) ≡ size (pdu_of mode N)
  unfolding sum_of
  one_sum size = add-zero (size (pdu_of mode N))

  pub one_length : length_of (one mode N) ≡ N
  one_length = one_sum (λ p. p.length)

  pub one_symbols : symbols_of (one mode N) ≡ symbols mode N
  one_symbols = one_sum (λ p. symbols p.mode p.length)

  pub one_carriers : carriers_of (one mode N) ≡ carriers mode N
  one_carriers = one_sum pdu_carriers

  pub one_sent : sent_of (one mode N) ≡ sent_bits mode N
  one_sent = one_sum pdu_sent

  -- every entry is that PDU's
  one_share : (size : Pdu → ℕ) (k : ℕ) → k < size (pdu_of mode N) → share_of size [] (one mode N) k ≡ share [] (pdu_of mode N) k
  unfolding share_of
  one_share size k h = rw (lt-ltb k (size (pdu_of mode N)) h)

  -- the ideal readings of a carrier
  pub one_i : (sent : List ℕ) (k : ℕ) → k < carriers mode N → list_i (one mode N) sent k ≡ ideal_i (constellation_of mode) sent k
  unfolding list_i ideal_by sum_of
  one_i sent k h = ap (ideal_by ideal_i sent) (one_share pdu_carriers k h)

  pub one_q : (sent : List ℕ) (k : ℕ) → k < carriers mode N → list_q (one mode N) sent k ≡ ideal_q (constellation_of mode) sent k
  unfolding list_q ideal_by sum_of
  one_q sent k h = ap (ideal_by ideal_q sent) (one_share pdu_carriers k h)

  pub one_ideal : (sent : List ℕ) (i q : List ℤ) (r : ℕ) (i' q' : List ℤ)
      → Ideal (one mode N) sent i q r i' q' ≡ alone.Ideal mode N sent i q r i' q'
  unfolding Ideal ideal_refusal alone.Ideal
  one_ideal sent i q r i' q' =
      rw (one_sized mode N, sized_first, one_sent, one_carriers, filled_same (carriers mode N) _ _ i (one_i sent), filled_same (carriers mode N) _ _ q (one_q sent))

  -- S of a sent bit, and its soft byte
  pub one_exact : (i q : List ℤ) (p : ℕ) → p < sent_bits mode N → list_exact (one mode N) i q p ≡ exact_at (constellation_of mode) i q p
  unfolding list_exact exact_by sum_of
  one_exact i q p h = ap (exact_by i q) (one_share pdu_sent p h)

  one_soft : (i q : List ℤ) (p : ℕ) → p < sent_bits mode N → list_soft (one mode N) i q p ≡ soft_at (constellation_of mode) i q p
  unfolding list_soft soft_at
  one_soft i q p h = ap rounded (one_exact i q p h)

  pub one_softened : (i q : List ℤ) → softened (one mode N) i q ≡ alone.softened mode N i q
  unfolding softened alone.softened
  one_softened i q = rw one_sent (tabulate_ext (sent_bits mode N) _ _ (one_soft i q))

  pub one_soften : (i q soft : List ℤ) (r : ℕ) (soft' : List ℤ) → Soften (one mode N) i q soft r soft' ≡ alone.Soften mode N i q soft r soft'
  unfolding Soften soften_refusal alone.Soften
  one_soften i q soft r soft' = rw (one_sized mode N, sized_first, one_sent, one_carriers, filled_same (sent_bits mode N) _ _ soft (one_soft i q))

  module _ (a : ℕ) where
    -- a sent bit of a scrambled train
    one_by : (w : List ℕ) (q : ℕ) → q < sent_bits mode N → sent_by (listed (one mode N) a) w q ≡ sent_by (train mode a) w q
    unfolding sent_by
    one_by w q h = ap (coded (tailed w)) (one_pdu_origin mode N a q h)

    -- costs and counts, as functions of trains
    one_cost : (s s' : ℕ → ℤ) → ((q : ℕ) → q < sent_bits mode N → s q ≡ s' q)
        → cost_by (listed (one mode N) a) (sent_of (one mode N)) s ≡ cost_by (train mode a) (sent_bits mode N) s'
    unfolding cost_by
    one_cost s s' same =
        let each : (w : List ℕ) → cost_by (listed (one mode N) a) (sent_of (one mode N)) s w ≡ cost_by (train mode a) (sent_bits mode N) s' w =
        λ w. rw one_sent (total_ext (sent_bits mode N) _ _ (λ q h. ap₂ bit_cost (same q h) (one_by w q h)))
        in
        λ t w. each w t

    pub one_rounded_cost : (soft : List ℤ) → rounded_cost (one mode N) a soft ≡ alone.rounded_cost mode N a soft
    unfolding rounded_cost alone.rounded_cost
    one_rounded_cost soft = one_cost (λ q. get_or soft q (pos 0)) _ (λ q h. refl)

    pub one_exact_cost : (i q : List ℤ) → exact_cost (one mode N) a i q ≡ alone.exact_cost mode N a i q
    unfolding exact_cost alone.exact_cost
    one_exact_cost i q = one_cost (list_exact (one mode N) i q) _ (one_exact i q)

    pub one_differing : differing (one mode N) a ≡ alone.differing mode N a
    unfolding differing alone.differing differing_by
    one_differing =
        let each : (w v : List ℕ) → differing (one mode N) a w v ≡ alone.differing mode N a w v =
        λ w v. rw one_sent (total_ext (sent_bits mode N) _ _ (λ q h. ap₂ (λ (x y : ℕ). choose (eqb x y) 0 1) (one_by w q h) (one_by v q h)))
        in
        λ t w v. each w v t

    -- so the same train is returned, and it is confirmed in the same cases
    pub one_returned : (soft : List ℤ) (w : List ℕ)
        → Returned (length_of (one mode N)) (rounded_cost (one mode N) a soft) w ≡ Returned N (alone.rounded_cost mode N a soft) w
    one_returned soft w = rw (one_length, one_rounded_cost soft)

    pub one_confirmed : (soft : List ℤ) (w : List ℕ)
        → Confirmed (length_of (one mode N)) (rounded_cost (one mode N) a soft) (differing (one mode N) a) w
        ≡ Confirmed N (alone.rounded_cost mode N a soft) (alone.differing mode N a) w
    one_confirmed soft w = rw (one_length, one_rounded_cost soft, one_differing)

    module _ (counter : ℕ) where
      one_sent_bit : (octets : List ℕ) (q : ℕ) → q < sent_bits mode N
          → before.sent_bit (one mode N) counter a octets q ≡ alone.sent_bit mode counter N a octets q
      unfolding before.sent_bit alone.sent_bit
      one_sent_bit octets q h = rw one_length (one_by (scrambled counter N octets) q h)

      pub one_encode : (octets sent : List ℕ) (r : ℕ) (sent' : List ℕ)
          → Encode Data (one mode N) counter a octets sent r sent' ≡ alone.Encode mode counter N a octets sent r sent'
      unfolding before.Encode alone.Encode
      one_encode octets sent r sent' =
          data_encode (one mode N) counter a octets sent r sent'
          ∙ rw (one_described mode counter N a, described_first counter a, one_length, one_sent, filled_same (sent_bits mode N) _ _ sent (one_sent_bit octets))

      pub one_decode_soft : (soft : List ℤ) (octets words : List ℕ) (r : ℕ) (o : Outcome)
          → DecodeSoft Data (one mode N) counter a soft octets words r o ≡ alone.DecodeSoft mode counter N a soft octets words r o
      unfolding before.DecodeSoft before.Wanted alone.DecodeSoft alone.Wanted
      one_decode_soft soft octets words r o =
          data_decode_soft (one mode N) counter a soft octets words r o
          ∙ rw (one_described mode counter N a, described_first counter a, one_length, one_symbols, one_sent, one_rounded_cost soft, one_differing)

      pub one_decode_readings : (i q : List ℤ) (octets words : List ℕ) (r : ℕ) (o : Outcome)
          → DecodeReadings Data (one mode N) counter a i q octets words r o ≡ alone.DecodeReadings mode counter N a i q octets words r o
      unfolding before.DecodeReadings before.Wanted alone.DecodeReadings alone.Wanted
      one_decode_readings i q octets words r o =
          data_decode_readings (one mode N) counter a i q octets words r o
          ∙ rw (one_described mode counter N a, described_first counter a, one_length, one_symbols, one_carriers, one_sent, one_softened i q, one_rounded_cost, one_differing)
