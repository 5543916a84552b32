-- `modes::description::PduList::pdus` makes the PDUs of a fit list.
-- Assumes nothing.
use mathlib.Core.Path.{◌≡◌}
use lib.ListN.{length, take}
use Rattle.std.proofs.Common.{map}
use Rattle.modes.specs.Description.{held}
use Rattle.modes.specs.Passed.{told}
use Rattle.modes.proofs.description.PduList.pdus.Given as goal

abbrev pub invariant-loop-k : goal.invariant-loop-k
invariant-loop-k l = (map held (take l.k l.pdus) ≡ take l.k (told l.self)) × (length l.pdus ≡ 16)
