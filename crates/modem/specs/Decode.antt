-- What `decode_soft` and `decode_readings` promise.
--   Outcome           what a decode reports beside its refusal, and what it leaves in the lent buffers
--   outcome           the same by its parts
--   nothing           the outcome of a refused call
--   train_of          the train that octets stand for, as it enters the encoder
--   Chosen            what is wanted of a train that is chosen, its cost, its mark and its comparisons
--   Decoded           the outcome that is wanted
--   DecodedList       the same of a list of PDUs
--   soft_refusal      the refusals of `decode_soft`: 11, 1 to 9, and 12 after 6; of a BCH not 2
--   DecodeSoft        its answer and outcome
--   readings_refusal  the refusals of `decode_readings`: the same without 9
--   DecodeReadings    its answer and outcome: that of the soft bytes of the readings
-- Assumes nothing.
use Rattle.std.specs.Prelude.{◌≡◌, ℕ, ◌+◌, Bool, true, false, not, List, ◌∷◌, eqb, ℤ, length, take, drop}
use Rattle.laws.specs.Ladder.{given, ladder}
use Rattle.laws.specs.Lists.{filled}
use Rattle.laws.specs.Answers.{Leaves}
use Rattle.modes.specs.declared.Kind.{Kind}
use Rattle.modes.specs.Sizes.{octets_of}
use Rattle.modes.specs.Pdus.{Pdu, length_of, symbols_of, carriers_of, sent_of}
use Rattle.modes.specs.Refusals.{decode_described}
use Rattle.trellis.specs.Wanted.{Returned, Confirmed}
use Rattle.trellis.specs.Compared.{Comparisons}
use Rattle.unique.specs.Sameness.{Octets}
use Rattle.soft.specs.Carriers.{all_soft}
use Rattle.modem.specs.Lent.{lent, readings_wrong, room_short}
use Rattle.modem.specs.Entering.{entering}
use Rattle.modem.specs.Soften.{softened}
use Rattle.modem.specs.Costs.{rounded_cost, differing}

-- symbols, n, rounded cost, mark and comparisons; the octets and the working words
pub record Outcome : Type 0 where
  pub symbols : ℕ
  pub n : ℕ
  pub cost : ℕ
  pub confirmed : Bool
  pub comparisons : ℕ
  pub octets : List ℕ
  pub words : List ℕ

-- an outcome by its parts
abbrev pub outcome : (symbols n cost : ℕ) → Bool → (comparisons : ℕ) → (octets words : List ℕ) → Outcome
outcome symbols n cost confirmed comparisons octets words =
    record { symbols = symbols; n = n; cost = cost; confirmed = confirmed; comparisons = comparisons; octets = octets; words = words }

-- a refused call reports zero for every count and cost and no confirmation, and changes no octet and no word
abbrev pub nothing : (octets words : List ℕ) → Outcome
nothing octets words = outcome 0 0 0 false 0 octets words

-- the train that N/8 octets at the front of a buffer stand for
unfoldable pub train_of : Kind → (counter N : ℕ) → List ℕ → List ℕ
train_of kind counter N octets = entering kind counter N (take (octets_of N) octets)

-- of all trains of N bits, by some cost and some count of differing bits: the octets stand for the one of least cost, of equals the one by
-- the rule; the cost is its cost; it is marked confirmed exactly when it is; the comparisons are those of a search for it; octets behind N/8
-- are as they were; N + 6 words are zero, and those behind them as they were
pub record Chosen (stands : List ℕ → List ℕ) (N : ℕ) (cost : List ℕ → ℕ) (differing : List ℕ → List ℕ → ℕ) (octets words : List ℕ)
    (c : ℕ) (confirmed : Bool) (comparisons : ℕ) (octets' words' : List ℕ) : Type 0 where
  pub returned : Returned N cost (stands octets')
  pub costs : c ≡ cost (stands octets')
  pub only_then : confirmed ≡ true → Confirmed N cost differing (stands octets')
  pub always_then : Confirmed N cost differing (stands octets') → confirmed ≡ true
  pub compared : Comparisons N comparisons
  pub octets_low : Octets (octets_of N) (take (octets_of N) octets')
  pub kept : drop (octets_of N) octets' ≡ drop (octets_of N) octets
  pub zeroed : words' ≡ filled (N + 6) (λ _. 0) words

-- chosen by some cost and some count of differing bits; and the train's symbols and sent bits
pub record Decoded (stands : List ℕ → List ℕ) (N symbols n : ℕ) (cost : List ℕ → ℕ) (differing : List ℕ → List ℕ → ℕ) (octets words : List ℕ) (o : Outcome) : Type 0 where
  pub chosen : Chosen stands N cost differing octets words o.cost o.confirmed o.comparisons o.octets o.words
  pub all_symbols : o.symbols ≡ symbols
  pub all_sent : o.n ≡ n

-- a train of a list of PDUs, chosen by the rounded cost of the sent bits, all of them heard
abbrev pub DecodedList : Kind → List Pdu → (counter a : ℕ) → List ℤ → (octets words : List ℕ) → Outcome → Type 0
DecodedList kind ps counter a soft =
    Decoded (train_of kind counter (length_of ps)) (length_of ps) (symbols_of ps) (sent_of ps) (rounded_cost ps a soft) (differing ps a)

-- the refusals of the description, then 7 for the soft bytes, 8, and 9 for a soft byte outside -80 to 80
unfoldable pub soft_refusal : Kind → List Pdu → (counter a : ℕ) → List ℤ → (octets words : List ℕ) → ℕ
soft_refusal kind ps counter a soft octets words =
    ladder
    (given (ladder (decode_described kind ps counter a))
    ∷ lent 9 (not (eqb (length soft) (sent_of ps))) (room_short (length_of ps) octets words) (not (all_soft soft)))

-- the answer r and the outcome o of decoding soft bytes
unfoldable pub DecodeSoft : Kind → List Pdu → (counter a : ℕ) → List ℤ → (octets words : List ℕ) → (r : ℕ) → Outcome → Type 0
DecodeSoft kind ps counter a soft octets words =
    Leaves (soft_refusal kind ps counter a soft octets words) (DecodedList kind ps counter a soft octets words) (nothing octets words)

-- the refusals of the description, then 7 for the readings of I and of Q, and 8
unfoldable pub readings_refusal : Kind → List Pdu → (counter a : ℕ) → (i q : List ℤ) → (octets words : List ℕ) → ℕ
readings_refusal kind ps counter a i q octets words =
    ladder
    (given (ladder (decode_described kind ps counter a))
    ∷ lent 9 (readings_wrong (carriers_of ps) i q) (room_short (length_of ps) octets words) false)

-- the answer r and the outcome o of decoding readings: their soft bytes are decoded
unfoldable pub DecodeReadings : Kind → List Pdu → (counter a : ℕ) → (i q : List ℤ) → (octets words : List ℕ) → (r : ℕ) → Outcome → Type 0
DecodeReadings kind ps counter a i q octets words =
    Leaves (readings_refusal kind ps counter a i q octets words) (DecodedList kind ps counter a (softened ps i q) octets words) (nothing octets words)
