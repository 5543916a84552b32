-- `search::mark` is the second pass, which ends where the other way into the train's state is not strictly above (MarkLaws).
-- Assumes nothing.
use Rattle.std.proofs.Common.{◌∙◌, sym, arith}
use Rattle.search.proofs.MarkLaws.{marking_start, input_is, marking_again, marked_not, marked_so}
use Rattle.search.proofs.mark.Goals as goal

pub loop-t-init : goal.loop-t-init
loop-t-init c =
    rw c.empty-register.ensures (marking_start _ _ _ _ c.requires.0 (λ m. (c.type_inv.heard m).fits) c.requires.2 c.started-costs.ensures)

pub returns-then-not-is_above : goal.returns-then-not-is_above
returns-then-not-is_above c =
    let inv = c.loop-t.invariant in
    marked_not _ _ _ _ _ _ inv c.loop-t-test.true
    _ _ _ _ _ _ _ _ (c.input_of.ensures ∙ input_is _ _ _ inv.train) c.enter.ensures (omega arith)
    (rw (← c.parity_of-own_x.ensures, ← c.parity_of-own_y.ensures) c.own_pair-pair.ensures)
    c.step-turn.ensures.costs c.step-turn.ensures.kept (sym c.is_above.ensures ∙ c.if-not-is_above.true)

pub loop-t-preserved : goal.loop-t-preserved
loop-t-preserved c =
    let inv = c.loop-t.invariant in
    marking_again _ _ _ _ _ _ inv c.loop-t-test.true
    _ _ _ _ _ _ _ _ (c.input_of.ensures ∙ input_is _ _ _ inv.train) c.enter.ensures (omega arith)
    (rw (← c.parity_of-own_x.ensures, ← c.parity_of-own_y.ensures) c.own_pair-pair.ensures)
    c.step-turn.ensures.costs c.step-turn.ensures.kept (sym c.is_above.ensures ∙ c.if-not-is_above.false)

pub returns : goal.returns
returns c = marked_so _ _ _ _ _ _ c.loop-t.invariant (omega arith)
