-- `places::spread::spread_train` spreads a train's soft bytes PDU by PDU.
-- Assumes nothing.
use Prim.Native.Nat.{◌-◌, ◌<◌, ◌≤◌}
use native.Mathlib.Omega.{arith}
use Rattle.std.proofs.Common.{rules}
use lib.ListN.{length, drop, length-take, length-drop}
use Rattle.modes.proofs.DescriptionLaws.{count_in}
use Rattle.modes.proofs.SizeLaws.{sent_within}
use Rattle.places.specs.Sending.{SpreadAll}
use Rattle.places.proofs.ListedLaws.{begins_none, begins_small, pdu_fit, begins_again, pdu_room, spread_on, begins_all}
use Rattle.places.proofs.spread.spread_train.Goals as goal
use Rattle.places.proofs.spread.spread_train.Goals.{In-loop-pdu}

within : (c : In-loop-pdu) → c.loop-pdu.pdu-index < count_in c.args.train.now
within c = rw c.as_slice-pdu-items.ensures.value at c.loop-pdu-test.true

-- the soft bytes that were spread lie within what is lent
inside : (c : In-loop-pdu) → c.loop-pdu.at ≤ length c.args.soft.now
inside c = omega (arith, (begins_small c.args.train.now _ _ _ c.loop-pdu.invariant.0).2, c.requires.room)

pub loop-pdu-init : goal.loop-pdu-init
loop-pdu-init c = (begins_none _, search rules)

pub slice_bounds-spread_pdu-count : goal.slice_bounds-spread_pdu-count
slice_bounds-spread_pdu-count c = inside (goal.at.slice_bounds-spread_pdu-count c).In-loop-pdu

pub slice_bounds-spread_pdu-start : goal.slice_bounds-spread_pdu-start
slice_bounds-spread_pdu-start c = inside (goal.at.slice_bounds-spread_pdu-start c).In-loop-pdu

pub spread_pdu-requires-clause-fit : goal.spread_pdu-requires-clause-fit
spread_pdu-requires-clause-fit c =
    rw c.as_slice-pdu-items.ensures.value
    (pdu_fit c.args.train.now _ _ _ c.loop-pdu.invariant.0 (within (goal.at.spread_pdu-requires-clause-fit c).In-loop-pdu))

pub spread_pdu-requires-clause-room : goal.spread_pdu-requires-clause-room
spread_pdu-requires-clause-room c =
    let turn = (goal.at.spread_pdu-requires-clause-room c).In-loop-pdu in
    let soft = c.args.soft.now in
    rw (c.as_slice-pdu-items.ensures.value, c.loop-pdu.invariant.1.long)
    (pdu_room c.args.train.now _ _ _ c.loop-pdu.invariant.0 (within turn) _ _ _ c.requires
    (omega (arith, inside turn, length-take (length soft - c.loop-pdu.at) (drop c.loop-pdu.at soft), length-drop c.loop-pdu.at soft)))

pub overflow_mul-first : goal.overflow_mul-first
overflow_mul-first c =
    rw c.as_slice-pdu-items.ensures.value
    (omega (arith, (pdu_fit c.args.train.now _ _ _ c.loop-pdu.invariant.0 (within (goal.at.overflow_mul-first c).In-loop-pdu)).to_3456))

pub overflow_add-first : goal.overflow_add-first
overflow_add-first c =
    let turn = (goal.at.overflow_add-first c).In-loop-pdu in
    rw c.as_slice-pdu-items.ensures.value
    (omega (arith, (begins_small c.args.train.now _ _ _ c.loop-pdu.invariant.0).0, (pdu_fit c.args.train.now _ _ _ c.loop-pdu.invariant.0 (within turn)).to_3456))

pub sent_bits-at-requires : goal.sent_bits-at-requires
sent_bits-at-requires c =
    rw c.as_slice-pdu-items.ensures.value
    (pdu_fit c.args.train.now _ _ _ c.loop-pdu.invariant.0 (within (goal.at.sent_bits-at-requires c).In-loop-pdu))

pub overflow_add-at : goal.overflow_add-at
overflow_add-at c =
    let turn = (goal.at.overflow_add-at c).In-loop-pdu in
    let fit = pdu_fit c.args.train.now _ _ _ c.loop-pdu.invariant.0 (within turn) in
    let sent = rw c.as_slice-pdu-items.ensures.value at c.sent_bits-at.ensures in
    omega (arith, sent, sent_within _ _ fit, fit.to_3456, (begins_small c.args.train.now _ _ _ c.loop-pdu.invariant.0).1)

pub loop-pdu-preserved : goal.loop-pdu-preserved
loop-pdu-preserved c =
    let less = within (goal.at.loop-pdu-preserved c).In-loop-pdu in
    let sent = rw c.as_slice-pdu-items.ensures.value at c.sent_bits-at.ensures in
    let spread = rw c.as_slice-pdu-items.ensures.value at c.spread_pdu.ensures in
    rw c.as_slice-pdu-items.ensures.value (
      begins_again c.args.train.now _ _ _ c.loop-pdu.invariant.0 less _ sent,
      spread_on c.args.train.now _ _ _ c.loop-pdu.invariant.0 less c.requires.inside c.args.soft.now _ _ _ _ c.loop-pdu.invariant.1 sent spread,
    )

pub returns : goal.returns
unfolding SpreadAll
returns c =
    rw (begins_all c.args.train.now _ _ _ c.loop-pdu.invariant.0 (rw c.as_slice-pdu-items.ensures.value at c.loop-pdu-test.false)) at c.loop-pdu.invariant.1
