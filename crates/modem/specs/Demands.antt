-- THE THREE DEMANDS, in the customer's words, of what a call answers and leaves. Demands.antt of proofs/ shows each from the calls' promises.
--   RefusesAs   1: which refusal a call gives, and that it then leaves everything as it was
--   SentAs      2: the n sent bits are those that document 01 fixes, and what lies behind them is as it was
--   EntersAs    2: a BCH as it enters the encoder, in clause 5.2's words
--   ReadAs      2: the ideal readings are 256 times the levels of the groups
--   PointAs     2: the point is the level times K on each axis
--   ReturnedAs  2: of all trains of N bits the one of least rounded cost, of equals the one by the rule
--   GivenBack   2: what went in at the one end came out at the other, at no cost and confirmed
--   Trusted     3: how far the returned train can be trusted
-- And of a later request:
--   ComparedAs  how many comparisons of two partial trains a decode reports
-- Assumes nothing.
use Rattle.std.specs.Prelude.{◌≡◌, true, ◌≢◌, List, ℕ, ◌+◌, ◌-◌, ◌*◌, ◌%◌, ◌≤◌, ◌<◌, Float, ℤ, pos, get_or, take, drop}
use Rattle.modes.specs.declared.Kind.{Kind}
use Rattle.modes.specs.Modes.{constellation_of}
use Rattle.modes.specs.Sizes.{octets_of}
use Rattle.modes.specs.Pdus.{Pdu, length_of, carriers_of, sent_of}
use Rattle.coder.specs.Scrambler.{bit_of, output, state, frame_counter}
use Rattle.coder.specs.Train.{Train}
use Rattle.points.specs.Levels.{level_i, level_q}
use Rattle.points.specs.Points.{part}
use Rattle.trellis.specs.Wanted.{Returned, Confirmed}
use Rattle.trellis.specs.Compared.{Comparisons}
use Rattle.modem.specs.Encode.{sent_bit}
use Rattle.modem.specs.Ideal.{list_i, list_q}
use Rattle.modem.specs.Soften.{softened}
use Rattle.modem.specs.Costs.{rounded_cost, exact_cost, differing}
use Rattle.modem.specs.Decode.{Outcome, train_of}

-- the answer is the number of the first test that holds, 0 where none does; where it is a refusal, what is left is what there was
pub record RefusesAs {B : Type 0} (number : ℕ) (before : B) (r : ℕ) (left : B) : Type 0 where
  pub which : r ≡ number
  pub leaves : r ≢ 0 → left ≡ before

-- sent bit q is the coded bit of the scrambled and tailed train that P1, and P2 and the interleaver of its PDU, put there
pub record SentAs (kind : Kind) (ps : List Pdu) (counter a : ℕ) (octets sent sent' : List ℕ) : Type 0 where
  pub bits : (q : ℕ) → q < sent_of ps → get_or sent' q 0 ≡ sent_bit kind ps counter a octets q
  pub kept : drop (sent_of ps) sent' ≡ drop (sent_of ps) sent

-- the first four bits, the frame counter with n4 first, go unscrambled, and the scrambler is initialised at the fifth bit
pub record EntersAs (counter : ℕ) (octets w : List ℕ) : Type 0 where
  pub counter_is : counter ≡ frame_counter (bit_of octets)
  pub unscrambled : (t : ℕ) → t < 4 → get_or w t 0 ≡ bit_of octets t
  pub from_fifth : (t : ℕ) → t < 116 → get_or w (4 + t) 0 ≡ (bit_of octets (4 + t) + output (state counter t)) % 2

-- on each axis the reading of carrier k is 256 times the level of its group
pub record ReadAs (ps : List Pdu) (sent : List ℕ) (i' q' : List ℤ) : Type 0 where
  pub on_i : (k : ℕ) → k < carriers_of ps → get_or i' k (pos 0) ≡ list_i ps sent k
  pub on_q : (k : ℕ) → k < carriers_of ps → get_or q' k (pos 0) ≡ list_q ps sent k

-- each part is the level times K by one f32 multiplication
pub record PointAs (mode group : ℕ) (i q : Float) : Type 0 where
  pub on_i : i ≡ part (constellation_of mode) (level_i (constellation_of mode) group)
  pub on_q : q ≡ part (constellation_of mode) (level_q (constellation_of mode) group)

-- the octets stand for the train of N bits that is wanted by these soft bytes, and the cost is that train's
pub record ReturnedAs (kind : Kind) (ps : List Pdu) (counter a : ℕ) (soft : List ℤ) (o : Outcome) : Type 0 where
  pub returned : Returned (length_of ps) (rounded_cost ps a soft) (train_of kind counter (length_of ps) o.octets)
  pub costs : o.cost ≡ rounded_cost ps a soft (train_of kind counter (length_of ps) o.octets)

-- the octets came back, at no cost and confirmed
pub record GivenBack (N : ℕ) (octets : List ℕ) (r : ℕ) (o : Outcome) : Type 0 where
  pub done : r ≡ 0
  pub back : take (octets_of N) o.octets ≡ octets
  pub no_cost : o.cost ≡ 0
  pub sure : o.confirmed ≡ true

-- the exact cost of the returned train exceeds the least exact cost of any train of N bits by at most 32 for each of the n bits heard;
-- it is marked confirmed exactly when, against every other such train, twice the rounded-cost difference is greater than the number of
-- heard bits in which the two differ; and a confirmed train is the only one with the least exact cost
pub record Trusted (kind : Kind) (ps : List Pdu) (counter a : ℕ) (i q : List ℤ) (o : Outcome) : Type 0 where
  pub near : (v : List ℕ) → Train (length_of ps) v
      → exact_cost ps a i q (train_of kind counter (length_of ps) o.octets) ≤ exact_cost ps a i q v + 32 * sent_of ps
  pub only_then : o.confirmed ≡ true
      → Confirmed (length_of ps) (rounded_cost ps a (softened ps i q)) (differing ps a) (train_of kind counter (length_of ps) o.octets)
  pub always_then : Confirmed (length_of ps) (rounded_cost ps a (softened ps i q)) (differing ps a) (train_of kind counter (length_of ps) o.octets)
      → o.confirmed ≡ true
  pub alone : o.confirmed ≡ true → (v : List ℕ) → Train (length_of ps) v → v ≢ train_of kind counter (length_of ps) o.octets
      → exact_cost ps a i q (train_of kind counter (length_of ps) o.octets) < exact_cost ps a i q v

-- the number k that a decode of N bits with the answer r reports is that of the definition and that of the formula; 0 where it is refused
pub record ComparedAs (N r k : ℕ) : Type 0 where
  pub counted : r ≡ 0 → Comparisons N k
  pub formula : r ≡ 0 → k ≡ 64 * (N - 6) + 63
  pub none : r ≢ 0 → k ≡ 0
