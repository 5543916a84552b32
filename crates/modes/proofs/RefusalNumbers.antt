-- Refusals and their numbers: what a test answers is 0 exactly where it is done.
-- Assumes nothing.
use mathlib.Core.Path.{◌≡◌}
use native.Mathlib.Omega.{arith}
use Rattle.modes.specs.declared.refusal.Refusal.{Refusal}
use Rattle.modes.specs.declared.refusal.Refusal.TheVariants.{Mode, Counter, Length, Octets, Symbols, Place, Input, Room, Value, Cut, List, Kind}
use Rattle.std.proofs.Common.{Result, Ok, Err, IsOk, rules}
use Rattle.modes.specs.Refusal.{refusal_number, answer_of}

-- no refusal has the number 0
pub above_0 : (refusal : Refusal) → refusal_number refusal ≡ 0 → ⊥
above_0 Mode e = omega arith
above_0 Counter e = omega arith
above_0 Length e = omega arith
above_0 Octets e = omega arith
above_0 Symbols e = omega arith
above_0 Place e = omega arith
above_0 Input e = omega arith
above_0 Room e = omega arith
above_0 Value e = omega arith
above_0 Cut e = omega arith
above_0 List e = omega arith
above_0 Kind e = omega arith

-- a call that answers 0 is done
pub done_ok : {A : Type 0} (r : Result A Refusal) → answer_of r ≡ 0 → IsOk r
done_ok (Ok x) e = search rules
done_ok (Err refusal) e = absurd (above_0 refusal e)
