-- `modes::description::PduList::modes_tested` is the ladder of refusal 11 and of 1 for each PDU.
-- Assumes nothing.
use mathlib.Core.List.{List}
use Prim.Native.Nat.{ℕ}
use Rattle.modes.proofs.TestLaws.{ModesTo}
use Rattle.modes.proofs.description.PduList.modes_tested.Given as goal

abbrev pub invariant-loop-mode : goal.invariant-loop-mode
invariant-loop-mode l = (whatever : List ℕ) → ModesTo l.self.count l.self.modes whatever l.mode-index
