-- What `encode` promises.
--   sent_bit        sent bit q of a train's octets: demand 2
--   encode_refusal  its refusals: 11, 1 to 8, and 12 of a BCH, after 6 and in the place of 9
--   Encode          its answer, and what it leaves in the lent buffer
-- Assumes nothing.
use Rattle.std.specs.Prelude.{ℕ, not, List, ◌∷◌, ltb, eqb, length}
use Rattle.laws.specs.Ladder.{given, ladder}
use Rattle.laws.specs.Lists.{filled}
use Rattle.laws.specs.Answers.{Answers}
use Rattle.modes.specs.declared.Kind.{Kind}
use Rattle.modes.specs.Sizes.{octets_of}
use Rattle.modes.specs.Pdus.{Pdu, length_of, sent_of}
use Rattle.modes.specs.Refusals.{encode_described}
use Rattle.places.specs.Trains.{listed}
use Rattle.modem.specs.Lent.{lent}
use Rattle.modem.specs.Entering.{entering, counter_other}
use Rattle.modem.specs.Sent.{sent_by}

-- sent bit q of a train's octets: scrambled, tailed and coded once, then P1 over all PDUs, P2 and the interleaver of each
unfoldable pub sent_bit : Kind → List Pdu → (counter a : ℕ) → List ℕ → ℕ → ℕ
sent_bit kind ps counter a octets q = sent_by (listed ps a) (entering kind counter (length_of ps) octets) q

-- the refusals of the description, then 7 for the octets, 8 for the room for sent bits, and 12 for first bits that are not the counter
unfoldable pub encode_refusal : Kind → List Pdu → (counter a : ℕ) → (octets sent : List ℕ) → ℕ
encode_refusal kind ps counter a octets sent =
    ladder
    (given (ladder (encode_described kind ps counter a))
    ∷ lent 12 (not (eqb (length octets) (octets_of (length_of ps)))) (ltb (length sent) (sent_of ps)) (counter_other kind counter octets))

-- the answer r, and the buffer: on success the n sent bits and the rest as it was, on a refusal all as it was
unfoldable pub Encode : Kind → List Pdu → (counter a : ℕ) → (octets sent : List ℕ) → (r : ℕ) → (sent' : List ℕ) → Type 0
Encode kind ps counter a octets sent =
    Answers (encode_refusal kind ps counter a octets sent) (filled (sent_of ps) (sent_bit kind ps counter a octets) sent) sent
