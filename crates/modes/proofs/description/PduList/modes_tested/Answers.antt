-- `modes::description::PduList::modes_tested` is the ladder of refusal 11 and of 1 for each PDU.
-- Assumes nothing.
use mathlib.Core.Path.{◌≡◌, sym, ◌∙◌, ap}
use mathlib.Core.List.{[], ◌∷◌}
use Prim.Native.Nat.{ℕ}
use native.Mathlib.Omega.{arith}
use Rattle.std.proofs.Common.{take, get_or}
use Rattle.std.proofs.lemmas.Result.{err_from_is_err_and}
use Rattle.laws.specs.Ladder.{◌when◌, ladder}
use Rattle.modes.specs.Refusals.{mode_unknown}
use Rattle.modes.proofs.RefusalNumbers.{above_0}
use Rattle.modes.proofs.TestLaws.{list_1_to_16, mode_on, mode_stop, modes_done, counted_within, counted_at, counted_past}
use Rattle.modes.proofs.description.PduList.modes_tested.Goals as goal
use Rattle.modes.proofs.description.PduList.modes_tested.Goals.{In-loop-mode}

-- the test of the element is that of the array's entry
same : (c : In-loop-mode) → ladder ((1 when mode_unknown (get_or (take c.args.self.now.count c.args.self.now.modes) c.loop-mode.mode-index 0)) ∷ [])
    ≡ ladder ((1 when mode_unknown (get_or c.args.self.now.modes c.loop-mode.mode-index 0)) ∷ [])
same c = ap (λ (k : ℕ). ladder ((1 when mode_unknown k) ∷ [])) (counted_at _ _ _ c.loop-mode-test.true)

pub returns-in_err-try_from : goal.returns-in_err-try_from
returns-in_err-try_from c =
    let p = err_from_is_err_and c.from_residual.result c.from_residual.ensures.1 in
    let e = c.in_err-try_from.ensures.answer ∙ same (goal.at.returns-in_err-try_from c).In-loop-mode in
    rw (p.1, p.2)
    (λ whatever.
    mode_stop _ _ whatever _ (counted_within _ _ _ c.loop-mode-test.true) _ (c.loop-mode.invariant whatever) e (above_0 _)
    ∙ sym (list_1_to_16 _ _ whatever (omega arith) (omega arith)))

pub loop-mode-preserved : goal.loop-mode-preserved
loop-mode-preserved c =
    let e = c.in_ok-try_from.ensures.answer ∙ same (goal.at.loop-mode-preserved c).In-loop-mode in
    λ whatever. mode_on _ _ whatever _ (counted_within _ _ _ c.loop-mode-test.true) (c.loop-mode.invariant whatever) (sym e)

pub returns : goal.returns
returns c =
    let past = counted_past _ c.args.self.now.modes _ (omega arith) c.loop-mode-test.false in
    λ whatever. sym (list_1_to_16 _ _ whatever (omega arith) (omega arith) ∙ modes_done _ _ whatever c.loop-mode.mode-index past (c.loop-mode.invariant whatever))
