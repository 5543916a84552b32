-- A TRAIN OF DATA, as before there were kinds: all trains were scrambled from their first bit, and no call had refusal 12. Data.antt of proofs/
-- shows that for data each promise of the calls is the one of that name here.
--   sent_bit                    sent bit q of a train's octets
--   Encode                      what `encode` answers and leaves
--   train_of                    the train that octets stand for
--   DecodeSoft, DecodeReadings  the answers and outcomes of the decodes
-- Assumes nothing.
use Rattle.std.specs.Prelude.{ℕ, false, not, List, ◌∷◌, ltb, eqb, ℤ, length, take}
use Rattle.laws.specs.Ladder.{given, ladder}
use Rattle.laws.specs.Lists.{filled}
use Rattle.laws.specs.Answers.{Leaves, Answers}
use Rattle.modes.specs.Sizes.{octets_of}
use Rattle.modes.specs.Pdus.{Pdu, length_of, symbols_of, carriers_of, sent_of}
use Rattle.modes.specs.Refusals.{list_described}
use Rattle.places.specs.Trains.{listed}
use Rattle.coder.specs.Scrambler.{scrambled}
use Rattle.soft.specs.Carriers.{all_soft}
use Rattle.modem.specs.Lent.{lent, readings_wrong, room_short}
use Rattle.modem.specs.Sent.{sent_by}
use Rattle.modem.specs.Soften.{softened}
use Rattle.modem.specs.Costs.{rounded_cost, differing}
use Rattle.modem.specs.Decode.{Outcome, nothing, Decoded}

-- sent bit q of a train's octets: scrambled, tailed and coded once, then P1 over all PDUs, P2 and the interleaver of each
unfoldable pub sent_bit : List Pdu → (counter a : ℕ) → List ℕ → ℕ → ℕ
sent_bit ps counter a octets q = sent_by (listed ps a) (scrambled counter (length_of ps) octets) q

-- refusals 11 and 1 to 6, then 7 for the octets and 8 for the room for sent bits; and the n sent bits
unfoldable pub Encode : List Pdu → (counter a : ℕ) → (octets sent : List ℕ) → (r : ℕ) → (sent' : List ℕ) → Type 0
Encode ps counter a octets sent =
    Answers
    (ladder
    (given (ladder (list_described ps counter a))
    ∷ lent 9 (not (eqb (length octets) (octets_of (length_of ps)))) (ltb (length sent) (sent_of ps)) false))
    (filled (sent_of ps) (sent_bit ps counter a octets) sent) sent

-- the train that N/8 octets at the front of a buffer stand for
unfoldable pub train_of : (counter N : ℕ) → List ℕ → List ℕ
train_of counter N octets = scrambled counter N (take (octets_of N) octets)

-- the outcome that is wanted of soft bytes
unfoldable pub Wanted : List Pdu → (counter a : ℕ) → List ℤ → (octets words : List ℕ) → Outcome → Type 0
Wanted ps counter a soft =
    Decoded (train_of counter (length_of ps)) (length_of ps) (symbols_of ps) (sent_of ps) (rounded_cost ps a soft) (differing ps a)

-- refusals 11 and 1 to 6, then 7 for the soft bytes, 8, and 9 for a soft byte outside -80 to 80; and the outcome
unfoldable pub DecodeSoft : List Pdu → (counter a : ℕ) → List ℤ → (octets words : List ℕ) → (r : ℕ) → Outcome → Type 0
DecodeSoft ps counter a soft octets words =
    Leaves
    (ladder
    (given (ladder (list_described ps counter a))
    ∷ lent 9 (not (eqb (length soft) (sent_of ps))) (room_short (length_of ps) octets words) (not (all_soft soft))))
    (Wanted ps counter a soft octets words) (nothing octets words)

-- refusals 11 and 1 to 6, then 7 for the readings of I and of Q, and 8; and the outcome, that of their soft bytes
unfoldable pub DecodeReadings : List Pdu → (counter a : ℕ) → (i q : List ℤ) → (octets words : List ℕ) → (r : ℕ) → Outcome → Type 0
DecodeReadings ps counter a i q octets words =
    Leaves
    (ladder
    (given (ladder (list_described ps counter a))
    ∷ lent 9 (readings_wrong (carriers_of ps) i q) (room_short (length_of ps) octets words) false))
    (Wanted ps counter a (softened ps i q) octets words) (nothing octets words)
