-- `modem::encode` keeps its promise, test by test (LentLaws).
-- Assumes nothing.
use mathlib.Core.Path.{sym, ◌∙◌}
use native.Mathlib.Omega.{arith}
use borrow.Author.Tests.{eqb-true, ltb-false, not-false}
use Rattle.std.proofs.lemmas.Result.{err_from_is_err_and}
use Rattle.modes.specs.Sizes.{octets_of}
use Rattle.modes.specs.Passed.{told}
use Rattle.modes.proofs.KindLaws.{encode_legal}
use Rattle.modes.proofs.RefusalNumbers.{above_0}
use Rattle.modem.specs.Encode.{encode_refusal, Encode}
use Rattle.modem.proofs.LentLaws.{value_tested, lent_passed, described_refused, lent_refused, all_done}
use Rattle.modem.proofs.PassedLaws.{Tallied, tallied, passed_legal, passed_sent}
use Rattle.modem.proofs.encode.Goals.{After-counts-counts}
use Rattle.modem.proofs.encode.Goals as goal

count : (c : After-counts-counts) → Tallied (told c.args.by.now.list) c.counts-counts.result.n c.counts-counts.result.symbols c.counts-counts.result.sent
count c = let counted = c.counts-counts.ensures in tallied _ _ _ _ _ c.in_ok-train.ensures.done.list_is counted.n counted.symbols counted.sent

pub returns-in_err-train : goal.returns-in_err-train
unfolding Encode encode_refusal
returns-in_err-train c =
    let p = err_from_is_err_and c.from_residual.result c.from_residual.ensures.1 in
    rw (p.1, p.2) (described_refused _ _ _ _ _ _ _ _ c.in_err-train.ensures.answer (above_0 _))

pub returns-in_err-lent_tested : goal.returns-in_err-lent_tested
unfolding Encode encode_refusal octets_of
returns-in_err-lent_tested c =
    let count = count (goal.at.returns-in_err-lent_tested c).After-counts-counts in
    let p = err_from_is_err_and c.from_residual-in_err-lent_tested.result c.from_residual-in_err-lent_tested.ensures.1 in
    rw (p.1, p.2)
    (lent_refused _ _ _ _ _ _ _ (sym c.in_ok-train.ensures.answer) _
    (rw (← count.n_is, ← count.sent_is, ← c.counter_other-other.ensures)
    (value_tested _ _ _ _ _ _ c.then_some.ensures c.in_err-lent_tested.ensures)) (above_0 _))

pub send-requires : goal.send-requires
unfolding octets_of
send-requires c =
    let holds = c.in_ok-train.ensures.done in
    let (wrong, short, other) = lent_passed 11 _ _ _ (sym (value_tested _ _ _ _ _ _ c.then_some.ensures c.in_ok-lent_tested.ensures)) in record {
      legal = passed_legal holds (encode_legal c.args.by.now.kind _ _ _ (sym c.in_ok-train.ensures.answer));
      octets_long = rw c.counts-counts.ensures.n at (eqb-true _ _ (not-false _ wrong));
      sent_room = omega (arith, c.counts-counts.ensures.sent, ltb-false _ _ short);
      counter_same = rw (holds.kind_is, holds.counter_is) (sym c.counter_other-other.ensures ∙ other);
    }

pub returns : goal.returns
unfolding Encode encode_refusal octets_of
returns c =
    let count = count (goal.at.returns c).After-counts-counts in
    all_done _ _ _ _ _ _ _ (sym c.in_ok-train.ensures.answer)
    (rw (← count.n_is, ← count.sent_is, ← c.counter_other-other.ensures)
    (sym (value_tested _ _ _ _ _ _ c.then_some.ensures c.in_ok-lent_tested.ensures)))
    _ (passed_sent c.in_ok-train.ensures.done _ _ _ c.send.ensures)
