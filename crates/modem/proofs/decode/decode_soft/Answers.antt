-- `modem::decode::decode_soft` keeps its promise, test by test (LentLaws).
-- Assumes nothing.
use mathlib.Core.Path.{◌≡◌, sym, ◌∙◌}
use Prim.Native.Nat.{◌+◌}
use native.Mathlib.Omega.{arith}
use lib.ListN.{length}
use borrow.Author.Tests.{eqb-true, not-false}
use Rattle.std.proofs.lemmas.Result.{err_from_is_err_and}
use Rattle.laws.specs.Ladder.{ladder}
use Rattle.modes.specs.Sizes.{octets_of}
use Rattle.modes.specs.Kinds.{heeded}
use Rattle.modes.specs.Refusals.{decode_described}
use Rattle.modes.specs.Passed.{told, pdus_in, Describes}
use Rattle.modes.specs.Description.{LegalList}
use Rattle.modes.proofs.KindLaws.{decode_legal}
use Rattle.modes.proofs.RefusalNumbers.{above_0}
use Rattle.modem.specs.Decode.{soft_refusal, DecodeSoft}
use Rattle.modem.proofs.LentLaws.{value_tested, enough_room, lent_passed, described_refused, lent_refused, all_done}
use Rattle.modem.proofs.PassedLaws.{Tallied, tallied, passed_legal, train_short, passed_decoded, heeded_tested}
use Rattle.modem.proofs.decode.decode_soft.Goals.{After-counts-counts}
use Rattle.modem.proofs.decode.decode_soft.Goals as goal

-- the description is not refused, and the Train is its
holds : (c : After-counts-counts) → Describes c.args.by.now.kind (told c.args.by.now.list) (heeded c.args.by.now.kind c.args.by.now.counter) c.args.by.now.a c.in_ok-train.train
holds c = rw c.heeded.ensures at c.in_ok-train.ensures.done

passed : (c : After-counts-counts) → ladder (decode_described c.args.by.now.kind (told c.args.by.now.list) c.args.by.now.counter c.args.by.now.a) ≡ 0
passed c = sym (heeded_tested _ _ _ _ _ (rw c.heeded.ensures at c.in_ok-train.ensures.answer))

legal : (c : After-counts-counts) → LegalList (pdus_in c.in_ok-train.train) c.in_ok-train.train.counter c.in_ok-train.train.a
legal c = passed_legal (holds c) (decode_legal c.args.by.now.kind _ _ _ (passed c))

count : (c : After-counts-counts) → Tallied (told c.args.by.now.list) c.counts-counts.result.n c.counts-counts.result.symbols c.counts-counts.result.sent
count c = let counted = c.counts-counts.ensures in tallied _ _ _ _ _ (holds c).list_is counted.n counted.symbols counted.sent

pub returns-in_err-train : goal.returns-in_err-train
unfolding DecodeSoft soft_refusal
returns-in_err-train c =
    let p = err_from_is_err_and c.from_residual.result c.from_residual.ensures.1 in
    rw (p.1, p.2) (described_refused _ _ _ _ _ _ _ _ (heeded_tested _ _ _ _ _ (rw c.heeded.ensures at c.in_err-train.ensures.answer)) (above_0 _))

pub room_short-short-requires : goal.room_short-short-requires
room_short-short-requires c = omega (arith, c.counts-counts.ensures.n, (train_short c.in_ok-train.train).0)

pub returns-in_err-lent_tested : goal.returns-in_err-lent_tested
unfolding DecodeSoft soft_refusal
returns-in_err-lent_tested c =
    let turn = (goal.at.returns-in_err-lent_tested c).After-counts-counts in
    let count = count turn in
    let p = err_from_is_err_and c.from_residual-in_err-lent_tested.result c.from_residual-in_err-lent_tested.ensures.1 in
    rw (p.1, p.2)
    (lent_refused _ _ _ _ _ _ _ (passed turn) _
    (rw (← count.sent_is, ← count.n_is, ← c.room_short-short.ensures, ← c.soft_ok-in_range.ensures)
    (value_tested _ _ _ _ _ _ c.then_some-value.ensures c.in_err-lent_tested.ensures))
    (above_0 _))

pub find-requires : goal.find-requires
find-requires c =
    let (wrong, short, outside) = lent_passed 8 _ _ _ (sym (value_tested _ _ _ _ _ _ c.then_some-value.ensures c.in_ok-lent_tested.ensures)) in
    let n = c.counts-counts.result.n in
    let room = enough_room (length c.args.octets.now) (length c.args.words.now) (octets_of n) (n + 6) (sym c.room_short-short.ensures ∙ short) in
    record {
      legal = legal (goal.at.find-requires c).After-counts-counts;
      soft_fit = (eqb-true _ _ (not-false _ wrong) ∙ c.counts-counts.ensures.sent, sym c.soft_ok-in_range.ensures ∙ not-false _ outside);
      octets_room = rw c.counts-counts.ensures.n at room.0;
      words_room = rw c.counts-counts.ensures.n at room.1;
    }

pub returns : goal.returns
unfolding DecodeSoft soft_refusal
returns c =
    let turn = (goal.at.returns c).After-counts-counts in
    let count = count turn in
    all_done _ _ _ _ _ _ _ (passed turn)
    (rw (← count.sent_is, ← count.n_is, ← c.room_short-short.ensures, ← c.soft_ok-in_range.ensures)
    (sym (value_tested _ _ _ _ _ _ c.then_some-value.ensures c.in_ok-lent_tested.ensures)))
    _ (passed_decoded _ _ _ _ _ (holds turn) _ _ _ _ c.find.ensures)
