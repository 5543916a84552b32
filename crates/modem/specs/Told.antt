-- What a call tells, as the promises speak of it.
--   reported          an answer, with what is left in the lent buffers
--   outcome_of        the outcome of a decode: that of its answer, or nothing where it is refused
--   point_i, point_q  the two parts of a mapped point, +0 where the call is refused
--   sent_bit_by       sent bit q of the octets of a train
--   Picked            the outcome of a search over the coded bits heard of a train
--   DecodedTrain      the outcome of a decode by the soft bytes of a train
--   DecodesSoft       what `decode_soft` promises of its answer
--   DecodesReadings   and `decode_readings`
-- Assumes nothing.
use Rattle.std.specs.Prelude.{ℕ, ℤ, List, Float, Result, Ok, Err}
use Rattle.modes.specs.declared.refusal.Refusal.{Refusal}
use Rattle.modes.specs.declared.train.Train.{Train}
use Rattle.modes.specs.Pdus.{length_of, symbols_of, sent_of}
use Rattle.modes.specs.declared.description.Description.{Description}
use Rattle.modes.specs.Refusal.{answer_of}
use Rattle.modes.specs.Passed.{told, pdus_in}
use Rattle.points.specs.declared.Point.{Point}
use Rattle.trellis.specs.Heard.{train_cost, differing}
use Rattle.search.specs.Bytes.{cost_of, heard_of}
use Rattle.modem.specs.declared.decode.Answer.{Answer}
use Rattle.modem.specs.Encode.{sent_bit}
use Rattle.modem.specs.Point.{plus_zero}
use Rattle.modem.specs.Decode.{Outcome, outcome, nothing, train_of, Decoded, DecodedList, DecodeSoft, DecodeReadings}

-- an answer, with what is left in the lent buffers
abbrev pub reported : Answer → (octets words : List ℕ) → Outcome
reported a octets words = outcome a.symbols a.n a.cost a.confirmed a.comparisons octets words

-- the outcome of a decode
abbrev pub outcome_of : Result Answer Refusal → (octets words : List ℕ) → Outcome
outcome_of (Ok a) octets words = reported a octets words
outcome_of (Err _) octets words = nothing octets words

-- a mapped point on I
abbrev pub point_i : Result Point Refusal → Float
point_i (Ok p) = p.i
point_i (Err _) = plus_zero

-- and on Q
abbrev pub point_q : Result Point Refusal → Float
point_q (Ok p) = p.q
point_q (Err _) = plus_zero

-- sent bit q of the octets of a train
abbrev pub sent_bit_by : Train → List ℕ → ℕ → ℕ
sent_bit_by t octets q = sent_bit t.kind (pdus_in t) t.counter t.a octets q

-- of all trains the one of least cost by the coded bits heard, with its symbols and sent bits
abbrev pub Picked : Train → (heard octets words : List ℕ) → Outcome → Type 0
Picked t heard octets words =
    Decoded (train_of t.kind t.counter (length_of (pdus_in t))) (length_of (pdus_in t)) (symbols_of (pdus_in t)) (sent_of (pdus_in t))
    (train_cost (cost_of heard) (length_of (pdus_in t))) (differing (heard_of heard) (length_of (pdus_in t))) octets words

-- the outcome of a decode by the soft bytes of a train
abbrev pub DecodedTrain : Train → List ℤ → (octets words : List ℕ) → Outcome → Type 0
DecodedTrain t soft octets words = DecodedList t.kind (pdus_in t) t.counter t.a soft octets words

-- the answer of `decode_soft`, and what it leaves
abbrev pub DecodesSoft : Description → List ℤ → (octets words : List ℕ) → Result Answer Refusal → (octets' words' : List ℕ) → Type 0
DecodesSoft by soft octets words r octets' words' =
    DecodeSoft by.kind (told by.list) by.counter by.a soft octets words (answer_of r) (outcome_of r octets' words')

-- the answer of `decode_readings`, and what it leaves
abbrev pub DecodesReadings : Description → (i q : List ℤ) → (octets words : List ℕ) → Result Answer Refusal → (octets' words' : List ℕ) → Type 0
DecodesReadings by i q octets words r octets' words' =
    DecodeReadings by.kind (told by.list) by.counter by.a i q octets words (answer_of r) (outcome_of r octets' words')
