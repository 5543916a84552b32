-- What a train that has passed the tests holds, and the list that a call is told of.
--   told       the list that a count and two arrays say
--   pdus_in    the list that the struct holds
--   Describes  the struct holds that kind, list, counter and a
--   ModeOf     the answer of a mode's number: its constellation and rate, or refusal 1
-- Assumes nothing.
use Rattle.std.specs.Prelude.{ℕ, ◌≡◌, List, [], ◌∷◌, map, take, Result, IfOk}
use Rattle.laws.specs.Ladder.{◌when◌, ladder}
use Rattle.modes.specs.declared.Kind.{Kind}
use Rattle.modes.specs.declared.Mode.{Mode}
use Rattle.modes.specs.declared.refusal.Refusal.{Refusal}
use Rattle.modes.specs.declared.description.PduList.{PduList}
use Rattle.modes.specs.declared.train.Train.{Train}
use Rattle.modes.specs.Modes.{constellation_of, rate_of}
use Rattle.modes.specs.Pdus.{Pdu, pdus_of}
use Rattle.modes.specs.Refusal.{answer_of}
use Rattle.modes.specs.Refusals.{mode_unknown}
use Rattle.modes.specs.Description.{held}

-- the list that a count and two arrays say
abbrev pub told : PduList → List Pdu
told list = pdus_of list.count list.modes list.lengths

-- the list that the struct holds
unfoldable pub pdus_in : Train → List Pdu
pdus_in t = map held (take t.count t.pdus)

-- the struct holds that kind, list, counter and a
pub record Describes (kind : Kind) (ps : List Pdu) (counter a : ℕ) (t : Train) : Type 0 where
  pub kind_is : t.kind ≡ kind
  pub list_is : pdus_in t ≡ ps
  pub counter_is : t.counter ≡ counter
  pub a_is : t.a ≡ a

-- the constellation and the rate of a mode's number, or refusal 1
pub record ModeOf (number : ℕ) (r : Result Mode Refusal) : Type 0 where
  pub answer : answer_of r ≡ ladder ((1 when mode_unknown number) ∷ [])
  pub done : IfOk r (λ m. (m.constellation ≡ constellation_of number) × (m.rate ≡ rate_of number))
