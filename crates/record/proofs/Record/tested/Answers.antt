-- `record::Record::tested` keeps its promise, test by test (LineLaws).
-- Assumes nothing.
use Rattle.std.proofs.lemmas.Result.{err_from_is_err_and}
use Rattle.laws.specs.Lists.{tabulate}
use Rattle.modes.specs.Pdus.{pdus_of}
use Rattle.modes.proofs.RefusalNumbers.{above_0}
use Rattle.record.proofs.LineLaws.{line_mode, line_counter, line_long, line_rest, one_answers}
use Rattle.record.proofs.Record.tested.Goals as goal

pub returns-in_err-try_from-clause-answer : goal.returns-in_err-try_from-clause-answer
returns-in_err-try_from-clause-answer c =
    let p = err_from_is_err_and c.from_residual.result c.from_residual.ensures.1 in
    rw (p.1, p.2) (line_mode _ _ _ _ _ c.in_err-try_from.ensures.answer (above_0 _))

pub returns-then-self-gt15-clause-answer : goal.returns-then-self-gt15-clause-answer
returns-then-self-gt15-clause-answer c = line_counter _ _ _ _ c.in_ok-try_from.ensures.answer c.if-self-gt15.true

pub returns-then-self-gt432-clause-answer : goal.returns-then-self-gt432-clause-answer
returns-then-self-gt432-clause-answer c = line_long _ _ _ _ c.in_ok-try_from.ensures.answer c.if-self-gt15.false c.if-self-gt432.true

pub returns-clause-answer : goal.returns-clause-answer
returns-clause-answer c =
    line_rest _ _ _ _ c.in_ok-try_from.ensures.answer c.if-self-gt15.false c.if-self-gt432.false _
    (one_answers _ _ _ _ _ (rw c.description.ensures at c.described.ensures.answer))

pub returns-clause-done : goal.returns-clause-done
unfolding pdus_of tabulate
returns-clause-done c = rw c.description.ensures at c.described.ensures.done
