-- `record::line_of` keeps its promise: the fields are read, tested, and what has passed is run (LineLaws).
-- Assumes nothing.
use mathlib.Core.Path.{sym}
use native.Mathlib.Omega.{arith}
use Rattle.std.proofs.lemmas.Result.{err_from_is_err_and}
use Rattle.modes.proofs.RefusalNumbers.{above_0}
use Rattle.record.proofs.LineLaws.{line_passed, octets_whole, line_refused, line_done}
use Rattle.record.proofs.RunLaws.{counted_symbols, counted_sent}
use Rattle.record.proofs.line_of.Goals as goal

pub returns-in_err-train : goal.returns-in_err-train
returns-in_err-train c =
    let p = err_from_is_err_and c.from_residual.result c.from_residual.ensures.1 in
    rw (p.1, p.2) (line_refused _ _ _ _ _ c.of-record.ensures _ c.in_err-train.ensures.answer (above_0 _))

pub slice_bounds-run-end : goal.slice_bounds-run-end
slice_bounds-run-end c = omega (arith, (line_passed _ _ _ _ (sym c.in_ok-train.ensures.answer)).1)

pub run-requires-clause-tested : goal.run-requires-clause-tested
run-requires-clause-tested c = line_passed _ _ _ _ (sym c.in_ok-train.ensures.answer)

pub run-requires-clause-sizes : goal.run-requires-clause-sizes
run-requires-clause-sizes c = (
  counted_symbols _ _ _ c.in_ok-train.ensures.done.list_is _ c.counts.ensures.symbols,
  counted_sent _ _ _ c.in_ok-train.ensures.done.list_is _ c.counts.ensures.sent,
)

pub run-requires-clause-octets_long : goal.run-requires-clause-octets_long
run-requires-clause-octets_long c = octets_whole c.args.bytes.now _ (omega arith) (line_passed _ _ _ _ (sym c.in_ok-train.ensures.answer)).1

pub returns : goal.returns
returns c = line_done _ _ _ _ _ c.of-record.ensures _ (sym c.in_ok-train.ensures.answer) c.run.ensures
