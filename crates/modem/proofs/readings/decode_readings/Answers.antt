-- `modem::readings::decode_readings` keeps its promise, test by test (LentLaws).
-- Assumes nothing.
use mathlib.Core.Path.{◌≡◌, sym, ◌∙◌, ap}
use Prim.Native.Nat.{◌+◌, ◌*◌}
use native.Mathlib.Omega.{arith}
use lib.ListN.{length, length-take}
use Rattle.std.proofs.lemmas.Result.{err_from_is_err_and}
use Rattle.laws.specs.Ladder.{ladder}
use Rattle.modes.specs.Sizes.{octets_of}
use Rattle.modes.specs.Kinds.{heeded}
use Rattle.modes.specs.Refusals.{decode_described}
use Rattle.modes.specs.Passed.{told, pdus_in, Describes}
use Rattle.modes.specs.Description.{LegalList}
use Rattle.modes.proofs.KindLaws.{decode_legal}
use Rattle.modes.proofs.RefusalNumbers.{above_0}
use Rattle.modem.specs.Decode.{readings_refusal, DecodeReadings}
use Rattle.modem.proofs.LentLaws.{right_counts, enough_room, lent_passed, described_refused, lent_refused, all_done}
use Rattle.modem.proofs.PassedLaws.{Tallied, tallied, passed_legal, train_short, train_carriers, passed_decoded, heeded_tested}
use Rattle.modes.specs.Pdus.{carriers_of}
use Rattle.soft.specs.Carriers.{all_soft}
use Rattle.modem.proofs.SoftenedLaws.{softened_length, softened_soft, front_softened}
use Rattle.modem.proofs.readings.decode_readings.Goals.{After-counts-counts, In_ok-lent_tested}
use Rattle.modem.proofs.readings.decode_readings.Goals as goal

-- the description is not refused, and the Train is its
holds : (c : After-counts-counts) → Describes c.args.by.now.kind (told c.args.by.now.list) (heeded c.args.by.now.kind c.args.by.now.counter) c.args.by.now.a c.in_ok-train.train
holds c = rw c.heeded.ensures at c.in_ok-train.ensures.done

passed : (c : After-counts-counts) → ladder (decode_described c.args.by.now.kind (told c.args.by.now.list) c.args.by.now.counter c.args.by.now.a) ≡ 0
passed c = sym (heeded_tested _ _ _ _ _ (rw c.heeded.ensures at c.in_ok-train.ensures.answer))

legal : (c : After-counts-counts) → LegalList (pdus_in c.in_ok-train.train) c.in_ok-train.train.counter c.in_ok-train.train.a
legal c = passed_legal (holds c) (decode_legal c.args.by.now.kind _ _ _ (passed c))

count : (c : After-counts-counts) → Tallied (told c.args.by.now.list) c.counts-counts.result.n c.counts-counts.result.symbols c.counts-counts.result.sent
count c = let counted = c.counts-counts.ensures in tallied _ _ _ _ _ (holds c).list_is counted.n counted.symbols counted.sent

pub returns-in_err-train : goal.returns-in_err-train
unfolding DecodeReadings readings_refusal
returns-in_err-train c =
    let p = err_from_is_err_and c.from_residual.result c.from_residual.ensures.1 in
    rw (p.1, p.2) (described_refused _ _ _ _ _ _ _ _ (heeded_tested _ _ _ _ _ (rw c.heeded.ensures at c.in_err-train.ensures.answer)) (above_0 _))

pub room_short-short-requires : goal.room_short-short-requires
room_short-short-requires c = omega (arith, c.counts-counts.ensures.n, (train_short c.in_ok-train.train).0)

pub returns-in_err-lent_tested : goal.returns-in_err-lent_tested
unfolding DecodeReadings readings_refusal
returns-in_err-lent_tested c =
    let turn = (goal.at.returns-in_err-lent_tested c).After-counts-counts in
    let count = count turn in
    let p = err_from_is_err_and c.from_residual-in_err-lent_tested.result c.from_residual-in_err-lent_tested.ensures.1 in
    rw (p.1, p.2)
    (lent_refused _ _ _ _ _ _ _ (passed turn) _
    (rw (← count.carriers_is, ← count.n_is, ← c.readings_wrong-wrong.ensures, ← c.room_short-short.ensures) c.in_err-lent_tested.ensures)
    (above_0 _))

-- there are as many readings of I and of Q as carriers
long : (c : In_ok-lent_tested) → (length c.args.i.now ≡ carriers_of (pdus_in c.in_ok-train.train)) × (length c.args.q.now ≡ carriers_of (pdus_in c.in_ok-train.train))
long c =
    let wrong = (lent_passed 8 _ _ _ (sym c.in_ok-lent_tested.ensures)).0 in
    let carriers = 48 * c.counts-counts.result.symbols in
    let (on_i, on_q) = right_counts (length c.args.i.now) (length c.args.q.now) carriers (sym c.readings_wrong-wrong.ensures ∙ wrong) in
    let all = train_carriers c.in_ok-train.train c.counts-counts.ensures.symbols in
    (on_i ∙ all, on_q ∙ all)

pub overflow_mul-counts : goal.overflow_mul-counts
overflow_mul-counts c = omega (arith, c.counts-counts.ensures.symbols, (train_short c.in_ok-train.train).1)

pub soften_train-requires : goal.soften_train-requires
soften_train-requires c =
    let (on_i, on_q) = long (goal.at.soften_train-requires c).In_ok-lent_tested in
    record {
      readings_long = (omega (arith, on_i), omega (arith, on_q));
      room = omega (arith, (train_short c.in_ok-train.train).2);
    }

pub slice_bounds-soft-end : goal.slice_bounds-soft-end
slice_bounds-soft-end c = omega (arith, c.counts-counts.ensures.sent, (train_short c.in_ok-train.train).2, c.soften_train.auto.soft)

pub slice_bounds-find-end : goal.slice_bounds-find-end
slice_bounds-find-end c =
    omega (arith, c.counts-counts.ensures.sent, (train_short c.in_ok-train.train).2, c.soften_train.auto.soft, length-take c.counts-counts.result.sent c.soften_train.new.soft)

pub find-requires : goal.find-requires
find-requires c =
    let short = (lent_passed 8 _ _ _ (sym c.in_ok-lent_tested.ensures)).1 in
    let n = c.counts-counts.result.n in
    let room = enough_room (length c.args.octets.now) (length c.args.words.now) (octets_of n) (n + 6) (sym c.room_short-short.ensures ∙ short) in
    let front = front_softened _ _ _ _ _ _ c.counts-counts.ensures.sent c.soften_train.ensures in
    record {
      legal = legal (goal.at.find-requires c).After-counts-counts;
      soft_fit = (ap length front ∙ softened_length _ _ _, ap all_soft front ∙ softened_soft _ _ _);
      octets_room = rw c.counts-counts.ensures.n at room.0;
      words_room = rw c.counts-counts.ensures.n at room.1;
    }

pub returns : goal.returns
unfolding DecodeReadings readings_refusal
returns c =
    let turn = (goal.at.returns c).After-counts-counts in
    let count = count turn in
    let found = rw (front_softened _ _ _ _ _ _ c.counts-counts.ensures.sent c.soften_train.ensures) at c.find.ensures in
    all_done _ _ _ _ _ _ _ (passed turn)
    (rw (← count.carriers_is, ← count.n_is, ← c.readings_wrong-wrong.ensures, ← c.room_short-short.ensures) (sym c.in_ok-lent_tested.ensures))
    _ (rw (holds turn).list_is at (passed_decoded _ _ _ _ _ (holds turn) _ _ _ _ found))
