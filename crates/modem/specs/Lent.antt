-- Refusals 7, 8 and 9: what the slices that are lent to a call are tested for, in the table's order. Another number may stand in the place of 9.
--   lent            an input slice of the wrong length, an output or working slice too short, a value that is not allowed
--   lent_by         the same by the refusal of a value, where there is one
--   readings_wrong  whether the readings of I or of Q are not as many as the carriers
--   room_short      whether there is too little room for the octets or for the working words
-- Assumes nothing.
use Rattle.std.specs.Prelude.{ℕ, ◌+◌, Option, Some, None, Bool, true, false, not, ◌||◌, List, [], ◌∷◌, ltb, eqb, ℤ, length}
use Rattle.laws.specs.Ladder.{Rung, ◌when◌}
use Rattle.modes.specs.declared.refusal.Refusal.{Refusal}
use Rattle.modes.specs.Refusal.{refusal_number}
use Rattle.modes.specs.Sizes.{octets_of}

-- 7 for inputs of the wrong length, 8 for too little room, 9 or the number in its place for a value that is not allowed
abbrev pub lent : (number : ℕ) → (wrong short outside : Bool) → List Rung
lent number wrong short outside = (7 when wrong) ∷ (8 when short) ∷ (number when outside) ∷ []

-- the same by the refusal of a value: none where the value is allowed, or where no value is tested
abbrev pub lent_by : (wrong short : Bool) → (value : Option Refusal) → List Rung
lent_by wrong short (Some refusal) = lent (refusal_number refusal) wrong short true
lent_by wrong short None = lent 9 wrong short false

-- whether the readings of I or of Q are not as many as the carriers
abbrev pub readings_wrong : (carriers : ℕ) → (i q : List ℤ) → Bool
readings_wrong carriers i q = not (eqb (length i) carriers) || not (eqb (length q) carriers)

-- whether there is too little room for the octets or for the working words
abbrev pub room_short : ℕ → (octets words : List ℕ) → Bool
room_short N octets words = ltb (length octets) (octets_of N) || ltb (length words) (N + 6)
