-- `modem::read_train` takes ideal readings PDU by PDU.
-- Assumes nothing.
use mathlib.Core.Path.{sym, ◌∙◌, ap}
use Prim.Native.Nat.{ℕ, ◌<◌}
use native.Mathlib.Omega.{arith}
use Rattle.laws.specs.Lists.{filled}
use Rattle.laws.proofs.ListLaws.{filled_none}
use Rattle.modes.specs.Passed.{pdus_in}
use Rattle.modes.proofs.DescriptionLaws.{count_in}
use Rattle.modes.proofs.SizeLaws.{sent_within}
use Rattle.points.specs.Points.{ideal_i, ideal_q}
use Rattle.modem.specs.Ideal.{list_i, list_q}
use Rattle.modem.proofs.ReadLaws.{reached_none, reached_small, carriers_48, pdu_fit, reached_again, read_room, read_on, reached_all}
use Rattle.modem.proofs.read_train.Goals.{In-loop-pdu}
use Rattle.modem.proofs.read_train.Goals as goal

within : (c : In-loop-pdu) → c.loop-pdu.pdu-index < count_in c.args.train.now
within c = rw c.as_slice-pdu-items.ensures.value at c.loop-pdu-test.true

pub loop-pdu-init : goal.loop-pdu-init
loop-pdu-init c = (reached_none _, sym (filled_none _ _), sym (filled_none _ _))

pub symbols-more-requires : goal.symbols-more-requires
symbols-more-requires c =
    rw c.as_slice-pdu-items.ensures.value (pdu_fit c.args.train.now _ _ _ c.loop-pdu.invariant.0 (within (goal.at.symbols-more-requires c).In-loop-pdu))

pub readings-requires : goal.readings-requires
readings-requires c =
    let less = within (goal.at.readings-requires c).In-loop-pdu in
    let more = carriers_48 _ _ _ (rw c.as_slice-pdu-items.ensures.value at c.symbols-more.ensures.0) in
    rw c.as_slice-pdu-items.ensures.value
    (read_room c.args.train.now _ _ _ c.loop-pdu.invariant.0 less _ _ _ _ more
    c.requires.sent_long (omega (arith, c.requires.room.0, c.loop-pdu.auto.i)) (omega (arith, c.requires.room.1, c.loop-pdu.auto.q)))

pub sent_bits-bits-requires : goal.sent_bits-bits-requires
sent_bits-bits-requires c =
    rw c.as_slice-pdu-items.ensures.value (pdu_fit c.args.train.now _ _ _ c.loop-pdu.invariant.0 (within (goal.at.sent_bits-bits-requires c).In-loop-pdu))

pub overflow_add-bits : goal.overflow_add-bits
overflow_add-bits c =
    let fit = pdu_fit c.args.train.now _ _ _ c.loop-pdu.invariant.0 (within (goal.at.overflow_add-bits c).In-loop-pdu) in
    let sent = rw c.as_slice-pdu-items.ensures.value at c.sent_bits-bits.ensures in
    omega (arith, sent, sent_within _ _ fit, fit.to_3456, (reached_small c.args.train.now _ _ _ c.loop-pdu.invariant.0).0)

pub loop-pdu-preserved : goal.loop-pdu-preserved
unfolding list_i list_q
loop-pdu-preserved c =
    let at = c.loop-pdu.invariant.0 in
    let less = within (goal.at.loop-pdu-preserved c).In-loop-pdu in
    let more = carriers_48 _ _ _ (rw c.as_slice-pdu-items.ensures.value at c.symbols-more.ensures.0) in
    let bits_is = rw c.as_slice-pdu-items.ensures.value at c.sent_bits-bits.ensures in
    let on_i = rw c.as_slice-pdu-items.ensures.value at c.readings.ensures.on_i in
    let on_q = rw c.as_slice-pdu-items.ensures.value at c.readings.ensures.on_q in (
      reached_again c.args.train.now _ _ _ at less _ _ bits_is more,
      read_on c.args.train.now _ _ _ at less ideal_i _ _ _ _ _ c.requires.room.0 c.loop-pdu.invariant.1 more on_i,
      read_on c.args.train.now _ _ _ at less ideal_q _ _ _ _ _ c.requires.room.1 c.loop-pdu.invariant.2 more on_q,
    )

pub returns-clause-i : goal.returns-clause-i
returns-clause-i c =
    c.loop-pdu.invariant.1
    ∙ ap (λ (n : ℕ). filled n (list_i (pdus_in c.args.train.now) c.args.sent.now) c.args.i.now)
    (reached_all c.args.train.now _ _ _ c.loop-pdu.invariant.0 (rw c.as_slice-pdu-items.ensures.value at c.loop-pdu-test.false)).1

pub returns-clause-q : goal.returns-clause-q
returns-clause-q c =
    c.loop-pdu.invariant.2
    ∙ ap (λ (n : ℕ). filled n (list_q (pdus_in c.args.train.now) c.args.sent.now) c.args.q.now)
    (reached_all c.args.train.now _ _ _ c.loop-pdu.invariant.0 (rw c.as_slice-pdu-items.ensures.value at c.loop-pdu-test.false)).1
