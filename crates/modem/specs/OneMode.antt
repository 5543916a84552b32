-- A TRAIN OF ONE MODE, as document 01 reads the standard. A list of one PDU of data is such a train: One.antt of proofs/ shows that each of these
-- is then the same as the definition of that name which the calls cite.
--   sent_bit                             sent bit q of a train's octets
--   Encode                               what `encode` answers and leaves
--   Ideal                                what `ideal` answers and leaves
--   softened, Soften                     the soft bytes of readings; what `soften` answers and leaves
--   rounded_cost, exact_cost, differing  what a scrambled train costs, and in how many sent bits two differ
--   DecodeSoft, DecodeReadings           the answers and outcomes of the decodes
-- Assumes nothing.
use Rattle.std.specs.Prelude.{ℕ, false, not, ◌||◌, List, ◌++◌, ltb, eqb, ℤ, pos, length, get_or}
use Rattle.laws.specs.Ladder.{ladder}
use Rattle.laws.specs.Lists.{tabulate, filled}
use Rattle.laws.specs.Answers.{Leaves, Answers}
use Rattle.modes.specs.Modes.{constellation_of}
use Rattle.modes.specs.Sizes.{symbols, carriers, sent_bits, octets_of}
use Rattle.modes.specs.Refusals.{sized, described}
use Rattle.places.specs.Trains.{train}
use Rattle.coder.specs.Scrambler.{scrambled}
use Rattle.points.specs.Levels.{all_bits}
use Rattle.points.specs.Points.{ideal_i, ideal_q}
use Rattle.soft.specs.Carriers.{exact_at, soft_at, all_soft}
use Rattle.modem.specs.Lent.{lent, readings_wrong, room_short}
use Rattle.modem.specs.Sent.{sent_by, cost_by, differing_by}
use Rattle.modem.specs.Decode.{Outcome, nothing, Decoded}
use Rattle.modem.specs.DataTrain.{train_of}

-- sent bit q of a train's octets: scrambled, tailed and coded, then P1, P2 and the interleaver
unfoldable pub sent_bit : (mode counter N a : ℕ) → List ℕ → ℕ → ℕ
sent_bit mode counter N a octets q = sent_by (train mode a) (scrambled counter N octets) q

-- refusals 1 to 6, 7 for the octets, 8 for the room for sent bits; and the n sent bits
unfoldable pub Encode : (mode counter N a : ℕ) → (octets sent : List ℕ) → (r : ℕ) → (sent' : List ℕ) → Type 0
Encode mode counter N a octets sent =
    Answers
    (ladder (described mode counter N a ++ lent 9 (not (eqb (length octets) (octets_of N))) (ltb (length sent) (sent_bits mode N)) false))
    (filled (sent_bits mode N) (sent_bit mode counter N a octets) sent) sent

-- refusals 1, 3, 4, 5, 7 for the sent bits, 8 for the room on I and on Q, 9 for a byte that is no bit; and 48 x symbols readings of I and of Q
unfoldable pub Ideal : (mode N : ℕ) → (sent : List ℕ) → (i q : List ℤ) → (r : ℕ) → (i' q' : List ℤ) → Type 0
Ideal mode N sent i q r i' q' =
    Answers {B = List ℤ × List ℤ}
    (ladder
    (sized mode N
    ++ lent 9 (not (eqb (length sent) (sent_bits mode N))) (ltb (length i) (carriers mode N) || ltb (length q) (carriers mode N)) (not (all_bits sent))))
    (filled (carriers mode N) (ideal_i (constellation_of mode) sent) i, filled (carriers mode N) (ideal_q (constellation_of mode) sent) q) (i, q)
    r (i', q')

-- the n soft bytes of readings
unfoldable pub softened : (mode N : ℕ) → (i q : List ℤ) → List ℤ
softened mode N i q = tabulate (sent_bits mode N) (soft_at (constellation_of mode) i q)

-- refusals 1, 3, 4, 5, 7 for the readings of I and of Q, 8 for the room for soft bytes; and the n soft bytes
unfoldable pub Soften : (mode N : ℕ) → (i q soft : List ℤ) → (r : ℕ) → (soft' : List ℤ) → Type 0
Soften mode N i q soft =
    Answers
    (ladder (sized mode N ++ lent 9 (readings_wrong (carriers mode N) i q) (ltb (length soft) (sent_bits mode N)) false))
    (filled (sent_bits mode N) (soft_at (constellation_of mode) i q) soft) soft

-- what a scrambled train costs by the soft bytes
unfoldable pub rounded_cost : (mode N a : ℕ) → List ℤ → List ℕ → ℕ
rounded_cost mode N a soft = cost_by (train mode a) (sent_bits mode N) (λ q. get_or soft q (pos 0))

-- by S of the readings
unfoldable pub exact_cost : (mode N a : ℕ) → (i q : List ℤ) → List ℕ → ℕ
exact_cost mode N a i q = cost_by (train mode a) (sent_bits mode N) (exact_at (constellation_of mode) i q)

-- the number of sent bits in which two trains differ
unfoldable pub differing : (mode N a : ℕ) → (w v : List ℕ) → ℕ
differing mode N a = differing_by (train mode a) (sent_bits mode N)

-- the outcome that is wanted of soft bytes
unfoldable pub Wanted : (mode counter N a : ℕ) → List ℤ → (octets words : List ℕ) → Outcome → Type 0
Wanted mode counter N a soft = Decoded (train_of counter N) N (symbols mode N) (sent_bits mode N) (rounded_cost mode N a soft) (differing mode N a)

-- refusals 1 to 6, 7 for the soft bytes, 8, 9 for a soft byte outside -80 to 80; and the outcome
unfoldable pub DecodeSoft : (mode counter N a : ℕ) → List ℤ → (octets words : List ℕ) → (r : ℕ) → Outcome → Type 0
DecodeSoft mode counter N a soft octets words =
    Leaves
    (ladder
    (described mode counter N a ++ lent 9 (not (eqb (length soft) (sent_bits mode N))) (room_short N octets words) (not (all_soft soft))))
    (Wanted mode counter N a soft octets words) (nothing octets words)

-- refusals 1 to 6, 7 for the readings of I and of Q, 8; and the outcome, that of their soft bytes
unfoldable pub DecodeReadings : (mode counter N a : ℕ) → (i q : List ℤ) → (octets words : List ℕ) → (r : ℕ) → Outcome → Type 0
DecodeReadings mode counter N a i q octets words =
    Leaves
    (ladder (described mode counter N a ++ lent 9 (readings_wrong (carriers mode N) i q) (room_short N octets words) false))
    (Wanted mode counter N a (softened mode N i q) octets words) (nothing octets words)
