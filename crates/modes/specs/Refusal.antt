-- The refusal numbers of document 01's table, and 11 and 12 of requests E1 and E2.
--   refusal_number  the number of a refusal
--   answer_of       what a call answers: 0 where it is done, and else its refusal's number
-- Assumes nothing.
use Rattle.std.specs.Prelude.{ℕ, Result, Ok, Err}
use Rattle.modes.specs.declared.refusal.Refusal.{Refusal}
use Rattle.modes.specs.declared.refusal.Refusal.TheVariants.{Mode, Counter, Length, Octets, Symbols, Place, Input, Room, Value, Cut, List, Kind}

-- the number of a refusal
abbrev pub refusal_number : Refusal → ℕ
refusal_number Mode = 1
refusal_number Counter = 2
refusal_number Length = 3
refusal_number Octets = 4
refusal_number Symbols = 5
refusal_number Place = 6
refusal_number Input = 7
refusal_number Room = 8
refusal_number Value = 9
refusal_number Cut = 10
refusal_number List = 11
refusal_number Kind = 12

-- what a call answers
abbrev pub answer_of : {A : Type 0} → Result A Refusal → ℕ
answer_of (Ok _) = 0
answer_of (Err refusal) = refusal_number refusal
