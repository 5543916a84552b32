-- `gauge::gauge_mark` marks what is fit to be marked.
-- Assumes nothing.
use mathlib.Core.Path.{sym, ◌∙◌}
use native.Mathlib.Omega.{arith}
use Rattle.gauge.proofs.GaugeLaws.{marks_not, marks_so, marked_by, bits_train, bits_not}
use Rattle.gauge.proofs.gauge_mark.Goals as goal

pub returns-then-not-bits_ok : goal.returns-then-not-bits_ok
returns-then-not-bits_ok c =
    let fit = c.in-Some.ensures in
    marks_not _ _ _ (λ _ t. bits_not _ _ (rw (fit.0) at (sym c.bits_ok.ensures ∙ c.if-not-bits_ok.true)) t)

pub mark-requires : goal.mark-requires
mark-requires c =
    let fit = c.in-Some.ensures in
    rw (fit.0) (fit.1.range, omega (arith, fit.1), bits_train _ _ fit.1.room (rw (fit.0) at (sym c.bits_ok.ensures ∙ c.if-not-bits_ok.false)))

pub returns : goal.returns
returns c =
    let fit = c.in-Some.ensures in
    marks_so _ _ _ _ fit.1
    (bits_train _ _ fit.1.room (rw (fit.0) at (sym c.bits_ok.ensures ∙ c.if-not-bits_ok.false)))
    (marked_by _ _ _ _ _ c.from.ensures (rw (fit.0) at c.mark.ensures))
