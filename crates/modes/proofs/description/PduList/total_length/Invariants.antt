-- `modes::description::PduList::total_length` is the sum of the lengths.
-- Assumes nothing.
use mathlib.Core.Path.{◌≡◌}
use mathlib.Core.List.{List}
use Prim.Native.Nat.{ℕ, ◌*◌, ◌≤◌}
use lib.ListN.{take}
use Rattle.modes.specs.Pdus.{pdus_of, length_of}
use Rattle.modes.proofs.description.PduList.total_length.Given as goal

abbrev pub invariant-loop-length : goal.invariant-loop-length
invariant-loop-length l =
    (l.n ≤ 4294967295 * l.length-index) × ((whatever : List ℕ) → l.n ≡ length_of (take l.length-index (pdus_of l.self.count whatever l.self.lengths)))
