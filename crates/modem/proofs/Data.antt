-- A TRAIN OF DATA ANSWERS AS BEFORE there were kinds: each definition that the calls cite is then the one of DataTrain, and so is what they promise.
-- Assumes nothing.
use mathlib.Core.Path.{◌≡◌, sym, ◌∙◌, ap}
use mathlib.Core.Bool.{Bool, false}
use mathlib.Core.List.{List, [], ◌∷◌}
use Prim.Native.Nat.{ℕ}
use lib.IntN.{ℤ}
use lib.ListN.{take}
use Rattle.laws.specs.Ladder.{◌when◌, given, ladder}
use Rattle.laws.proofs.LadderLaws.{ladder_idle}
use Rattle.modes.specs.declared.Kind.TheVariants.{Data}
use Rattle.modes.specs.Sizes.{octets_of}
use Rattle.modes.specs.Pdus.{Pdu, length_of}
use Rattle.modes.specs.Refusals.{encode_described, decode_described}
use Rattle.places.specs.Trains.{listed}
use Rattle.coder.specs.Scrambler.{scrambled}
use Rattle.coder.proofs.ScramblerLaws.{from_the_first}
use Rattle.modem.specs.DataTrain as before
use Rattle.modem.specs.Lent.{lent}
use Rattle.modem.specs.Entering.{entering}
use Rattle.modem.specs.Sent.{sent_by}
use Rattle.modem.specs.Encode.{sent_bit, encode_refusal, Encode}
use Rattle.modem.specs.Decode.{Outcome, train_of, soft_refusal, DecodeSoft, readings_refusal, DecodeReadings}

-- a last test that fails has no number
last_idle : (described : ℕ) (wrong short : Bool) → ladder (given described ∷ lent 12 wrong short false) ≡ ladder (given described ∷ lent 9 wrong short false)
last_idle described wrong short =
    ladder_idle (given described ∷ (7 when wrong) ∷ (8 when short) ∷ []) 12 ∙ sym (ladder_idle (given described ∷ (7 when wrong) ∷ (8 when short) ∷ []) 9)

-- it is scrambled from its first bit
data_entering : (counter N : ℕ) (octets : List ℕ) → entering Data counter N octets ≡ scrambled counter N octets
unfolding entering
data_entering counter N octets = from_the_first counter N octets

data_train : (counter N : ℕ) → train_of Data counter N ≡ before.train_of counter N
unfolding train_of before.train_of
data_train counter N =
    let each : (octets : List ℕ) → train_of Data counter N octets ≡ before.train_of counter N octets = λ octets. data_entering counter N (take (octets_of N) octets) in
    λ t octets. each octets t

module _ (ps : List Pdu) (counter a : ℕ) where
  data_sent : (octets : List ℕ) → sent_bit Data ps counter a octets ≡ before.sent_bit ps counter a octets
  unfolding sent_bit before.sent_bit
  data_sent octets =
      let each : (q : ℕ) → sent_bit Data ps counter a octets q ≡ before.sent_bit ps counter a octets q =
      λ q. ap (λ (w : List ℕ). sent_by (listed ps a) w q) (data_entering counter (length_of ps) octets)
      in
      λ t q. each q t

  pub data_encode : (octets sent : List ℕ) (r : ℕ) (sent' : List ℕ)
      → Encode Data ps counter a octets sent r sent' ≡ before.Encode ps counter a octets sent r sent'
  unfolding Encode encode_refusal encode_described before.Encode
  data_encode octets sent r sent' = rw (last_idle, data_sent octets)

  pub data_decode_soft : (soft : List ℤ) (octets words : List ℕ) (r : ℕ) (o : Outcome)
      → DecodeSoft Data ps counter a soft octets words r o ≡ before.DecodeSoft ps counter a soft octets words r o
  unfolding DecodeSoft soft_refusal decode_described before.DecodeSoft before.Wanted
  data_decode_soft soft octets words r o = rw (data_train counter (length_of ps))

  pub data_decode_readings : (i q : List ℤ) (octets words : List ℕ) (r : ℕ) (o : Outcome)
      → DecodeReadings Data ps counter a i q octets words r o ≡ before.DecodeReadings ps counter a i q octets words r o
  unfolding DecodeReadings readings_refusal decode_described before.DecodeReadings before.Wanted
  data_decode_readings i q octets words r o = rw (data_train counter (length_of ps))
