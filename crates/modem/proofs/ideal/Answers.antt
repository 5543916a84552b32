-- `modem::ideal` keeps its promise, test by test (LentLaws).
-- Assumes nothing.
use mathlib.Core.Path.{sym, ◌∙◌}
use Prim.Native.Nat.{◌*◌}
use native.Mathlib.Omega.{arith}
use lib.ListN.{length}
use borrow.Author.Tests.{eqb-true, not-false}
use Rattle.std.proofs.lemmas.Result.{err_from_is_err_and}
use Rattle.modes.specs.Passed.{told}
use Rattle.modes.proofs.RefusalNumbers.{above_0}
use Rattle.modem.specs.Ideal.{ideal_refusal, Ideal}
use Rattle.modem.proofs.LentLaws.{value_tested, enough_room, lent_passed, described_refused, lent_refused, all_done}
use Rattle.modem.proofs.PassedLaws.{Tallied, tallied, train_short, train_carriers, passed_read}
use Rattle.modem.proofs.ideal.Goals.{After-counts-counts}
use Rattle.modem.proofs.ideal.Goals as goal

count : (c : After-counts-counts) → Tallied (told c.args.list.now) c.counts-counts.result.n c.counts-counts.result.symbols c.counts-counts.result.sent
count c = let counted = c.counts-counts.ensures in tallied _ _ _ _ _ c.in_ok-train.ensures.done.list_is counted.n counted.symbols counted.sent

pub returns-in_err-train : goal.returns-in_err-train
unfolding Ideal ideal_refusal
returns-in_err-train c =
    let p = err_from_is_err_and c.from_residual.result c.from_residual.ensures.1 in
    rw (p.1, p.2) (described_refused _ _ _ _ _ _ _ _ c.in_err-train.ensures.answer (above_0 _))

pub overflow_mul-counts : goal.overflow_mul-counts
overflow_mul-counts c = omega (arith, (train_short c.in_ok-train.train).1, c.counts-counts.ensures.symbols)

pub returns-in_err-lent_tested : goal.returns-in_err-lent_tested
unfolding Ideal ideal_refusal
returns-in_err-lent_tested c =
    let count = count (goal.at.returns-in_err-lent_tested c).After-counts-counts in
    let p = err_from_is_err_and c.from_residual-in_err-lent_tested.result c.from_residual-in_err-lent_tested.ensures.1 in
    rw (p.1, p.2)
    (lent_refused _ _ _ _ _ _ _ (sym c.in_ok-train.ensures.answer) _
    (rw (← count.sent_is, ← count.carriers_is, ← c.axes_short-short.ensures, ← c.bits_ok-bits.ensures)
    (value_tested _ _ _ _ _ _ c.then_some-value.ensures c.in_err-lent_tested.ensures))
    (above_0 _))

pub read_train-requires : goal.read_train-requires
read_train-requires c =
    let (wrong, short, _) = lent_passed 8 _ _ _ (sym (value_tested _ _ _ _ _ _ c.then_some-value.ensures c.in_ok-lent_tested.ensures)) in
    let carriers = 48 * c.counts-counts.result.symbols in
    let (on_i, on_q) = enough_room (length c.args.i.now) (length c.args.q.now) carriers carriers (sym c.axes_short-short.ensures ∙ short) in
    let all_carriers = train_carriers c.in_ok-train.train c.counts-counts.ensures.symbols in record {
      sent_long = omega (arith, c.counts-counts.ensures.sent, eqb-true _ _ (not-false _ wrong));
      room = (omega (arith, on_i, all_carriers), omega (arith, on_q, all_carriers));
    }

pub returns : goal.returns
unfolding Ideal ideal_refusal
returns c =
    let count = count (goal.at.returns c).After-counts-counts in
    all_done _ _ _ _ _ _ _ (sym c.in_ok-train.ensures.answer)
    (rw (← count.sent_is, ← count.carriers_is, ← c.axes_short-short.ensures, ← c.bits_ok-bits.ensures)
    (sym (value_tested _ _ _ _ _ _ c.then_some-value.ensures c.in_ok-lent_tested.ensures)))
    _ (passed_read c.in_ok-train.ensures.done _ _ _ _ _ c.read_train.ensures.i c.read_train.ensures.q)
