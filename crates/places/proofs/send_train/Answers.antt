-- `places::send_train` sends a train PDU by PDU.
-- Assumes nothing.
use mathlib.Core.Path.{◌≡◌, sym, ◌∙◌, ap}
use Prim.Native.Nat.{ℕ, ◌-◌, ◌<◌, ◌≤◌}
use native.Mathlib.Omega.{arith}
use lib.ListN.{length, drop, length-take, length-drop}
use Rattle.laws.specs.Lists.{filled}
use Rattle.laws.proofs.ListLaws.{filled_none, filled_length}
use Rattle.modes.specs.Passed.{pdus_in}
use Rattle.modes.proofs.DescriptionLaws.{count_in}
use Rattle.modes.proofs.SizeLaws.{sent_within}
use Rattle.places.specs.Sending.{train_bit}
use Rattle.places.proofs.ListedLaws.{begins_none, begins_small, pdu_fit, begins_again, pdu_room, sent_on, begins_all}
use Rattle.places.proofs.send_train.Goals as goal
use Rattle.places.proofs.send_train.Goals.{In-loop-pdu}

within : (c : In-loop-pdu) → c.loop-pdu.pdu-index < count_in c.args.train.now
within c = rw c.as_slice-pdu-items.ensures.value at c.loop-pdu-test.true

-- the buffer keeps its length, and what was sent lies within it
long : (c : In-loop-pdu) → length c.loop-pdu.sent ≡ length c.args.sent.now
long c =
    ap length c.loop-pdu.invariant.1
    ∙ filled_length _ _ c.args.sent.now (omega (arith, (begins_small c.args.train.now _ _ _ c.loop-pdu.invariant.0).2, c.requires.room))

inside : (c : In-loop-pdu) → c.loop-pdu.at ≤ length c.loop-pdu.sent
inside c = omega (arith, long c, (begins_small c.args.train.now _ _ _ c.loop-pdu.invariant.0).2, c.requires.room)

pub loop-pdu-init : goal.loop-pdu-init
loop-pdu-init c = (begins_none _, sym (filled_none _ _))

pub slice_bounds-send_pdu-count : goal.slice_bounds-send_pdu-count
slice_bounds-send_pdu-count c = inside (goal.at.slice_bounds-send_pdu-count c).In-loop-pdu

pub slice_bounds-send_pdu-start : goal.slice_bounds-send_pdu-start
slice_bounds-send_pdu-start c = inside (goal.at.slice_bounds-send_pdu-start c).In-loop-pdu

pub send_pdu-requires-clause-fit : goal.send_pdu-requires-clause-fit
send_pdu-requires-clause-fit c =
    rw c.as_slice-pdu-items.ensures.value
    (pdu_fit c.args.train.now _ _ _ c.loop-pdu.invariant.0 (within (goal.at.send_pdu-requires-clause-fit c).In-loop-pdu))

pub send_pdu-requires-clause-room : goal.send_pdu-requires-clause-room
send_pdu-requires-clause-room c =
    let turn = (goal.at.send_pdu-requires-clause-room c).In-loop-pdu in
    rw c.as_slice-pdu-items.ensures.value
    (pdu_room c.args.train.now _ _ _ c.loop-pdu.invariant.0 (within turn) _ _ _ c.requires
    (omega (arith, inside turn, long turn, length-take (length c.loop-pdu.sent - c.loop-pdu.at) (drop c.loop-pdu.at c.loop-pdu.sent), length-drop c.loop-pdu.at c.loop-pdu.sent)))

pub overflow_mul-first : goal.overflow_mul-first
overflow_mul-first c =
    rw c.as_slice-pdu-items.ensures.value
    (omega (arith, (pdu_fit c.args.train.now _ _ _ c.loop-pdu.invariant.0 (within (goal.at.overflow_mul-first c).In-loop-pdu)).to_3456))

pub overflow_add-first : goal.overflow_add-first
overflow_add-first c =
    let turn = (goal.at.overflow_add-first c).In-loop-pdu in
    rw c.as_slice-pdu-items.ensures.value
    (omega (arith, (begins_small c.args.train.now _ _ _ c.loop-pdu.invariant.0).0, (pdu_fit c.args.train.now _ _ _ c.loop-pdu.invariant.0 (within turn)).to_3456))

pub sent_bits-at-requires : goal.sent_bits-at-requires
sent_bits-at-requires c =
    rw c.as_slice-pdu-items.ensures.value
    (pdu_fit c.args.train.now _ _ _ c.loop-pdu.invariant.0 (within (goal.at.sent_bits-at-requires c).In-loop-pdu))

pub overflow_add-at : goal.overflow_add-at
overflow_add-at c =
    let turn = (goal.at.overflow_add-at c).In-loop-pdu in
    let fit = pdu_fit c.args.train.now _ _ _ c.loop-pdu.invariant.0 (within turn) in
    let sent = rw c.as_slice-pdu-items.ensures.value at c.sent_bits-at.ensures in
    omega (arith, sent, sent_within _ _ fit, fit.to_3456, (begins_small c.args.train.now _ _ _ c.loop-pdu.invariant.0).1)

pub loop-pdu-preserved : goal.loop-pdu-preserved
loop-pdu-preserved c =
    let less = within (goal.at.loop-pdu-preserved c).In-loop-pdu in
    let sent = rw c.as_slice-pdu-items.ensures.value at c.sent_bits-at.ensures in
    let written = rw c.as_slice-pdu-items.ensures.value at c.send_pdu.ensures in
    rw c.as_slice-pdu-items.ensures.value (
      begins_again c.args.train.now _ _ _ c.loop-pdu.invariant.0 less _ sent,
      sent_on c.args.train.now _ _ _ c.loop-pdu.invariant.0 less c.args.coded.now c.args.sent.now c.loop-pdu.sent _ _ c.requires.room c.loop-pdu.invariant.1 sent written,
    )

pub returns : goal.returns
returns c =
    c.loop-pdu.invariant.1
    ∙ ap (λ (n : ℕ). filled n (train_bit (pdus_in c.args.train.now) c.args.train.now.a c.args.coded.now) c.args.sent.now)
    (begins_all c.args.train.now _ _ _ c.loop-pdu.invariant.0 (rw c.as_slice-pdu-items.ensures.value at c.loop-pdu-test.false))
