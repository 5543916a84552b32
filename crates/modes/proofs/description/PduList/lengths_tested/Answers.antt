-- `modes::description::PduList::lengths_tested` is the ladder of refusals 3, 4 and 5 PDU by PDU.
-- Assumes nothing.
use mathlib.Core.Path.{sym, ◌∙◌, ap}
use Prim.Native.Nat.{ℕ}
use native.Mathlib.Omega.{arith}
use lib.ListN.{get_or}
use Rattle.std.proofs.lemmas.Result.{err_from_is_err_and}
use Rattle.laws.specs.Ladder.{ladder}
use Rattle.modes.specs.Refusals.{lengths}
use Rattle.modes.proofs.RefusalNumbers.{above_0}
use Rattle.modes.proofs.TestLaws.{mode_known, length_on, length_stop, lengths_done}
use Rattle.modes.proofs.description.PduList.lengths_tested.Goals as goal

pub info_of-requires : goal.info_of-requires
info_of-requires c = mode_known _ _ _ _ (omega arith) c.requires.1

pub returns-in_err-length_tested : goal.returns-in_err-length_tested
returns-in_err-length_tested c =
    let p = err_from_is_err_and c.from_residual.result c.from_residual.ensures.1 in
    rw (p.1, p.2)
    (length_stop _ _ _ _ (omega arith) _ c.loop-k.invariant
    (c.in_err-length_tested.ensures ∙ ap (λ (i : ℕ). ladder (lengths i (get_or c.args.self.now.lengths c.loop-k.k 0))) c.info_of.ensures.0)
    (above_0 _))

pub loop-k-preserved : goal.loop-k-preserved
loop-k-preserved c =
    length_on _ _ _ _ (omega arith) c.loop-k.invariant
    (ap (λ (i : ℕ). ladder (lengths i (get_or c.args.self.now.lengths c.loop-k.k 0))) (sym c.info_of.ensures.0) ∙ sym c.in_ok-length_tested.ensures)

pub returns : goal.returns
returns c = sym (lengths_done _ _ _ c.loop-k.k (omega arith) c.loop-k.invariant)
