-- `modem::readings::soften_train` makes soft bytes PDU by PDU.
-- Assumes nothing.
use mathlib.Core.Path.{sym, ◌∙◌, ap}
use Prim.Native.Nat.{ℕ, ◌<◌}
use native.Mathlib.Omega.{arith}
use Rattle.laws.specs.Lists.{filled}
use Rattle.laws.proofs.ListLaws.{filled_none}
use Rattle.modes.specs.Passed.{pdus_in}
use Rattle.modes.proofs.DescriptionLaws.{count_in}
use Rattle.modes.proofs.SizeLaws.{sent_within}
use Rattle.modem.specs.Soften.{list_soft}
use Rattle.modem.proofs.ReadLaws.{reached_none, reached_small, carriers_48, pdu_fit, reached_again, soften_room, soften_on, reached_all}
use Rattle.modem.proofs.readings.soften_train.Goals.{In-loop-pdu}
use Rattle.modem.proofs.readings.soften_train.Goals as goal

within : (c : In-loop-pdu) → c.loop-pdu.pdu-index < count_in c.args.train.now
within c = rw c.as_slice-pdu-items.ensures.value at c.loop-pdu-test.true

pub loop-pdu-init : goal.loop-pdu-init
loop-pdu-init c = (reached_none _, sym (filled_none _ _))

pub symbols-more-requires : goal.symbols-more-requires
symbols-more-requires c =
    rw c.as_slice-pdu-items.ensures.value (pdu_fit c.args.train.now _ _ _ c.loop-pdu.invariant.0 (within (goal.at.symbols-more-requires c).In-loop-pdu))

pub soften-requires : goal.soften-requires
soften-requires c =
    let less = within (goal.at.soften-requires c).In-loop-pdu in
    let more = carriers_48 _ _ _ (rw c.as_slice-pdu-items.ensures.value at c.symbols-more.ensures.0) in
    rw c.as_slice-pdu-items.ensures.value
    (soften_room c.args.train.now _ _ _ c.loop-pdu.invariant.0 less _ _ _ _ more
    c.requires.readings_long.0 c.requires.readings_long.1 (omega (arith, c.requires.room, c.loop-pdu.auto.soft)))

pub sent_bits-bits-requires : goal.sent_bits-bits-requires
sent_bits-bits-requires c =
    rw c.as_slice-pdu-items.ensures.value (pdu_fit c.args.train.now _ _ _ c.loop-pdu.invariant.0 (within (goal.at.sent_bits-bits-requires c).In-loop-pdu))

pub overflow_add-bits : goal.overflow_add-bits
overflow_add-bits c =
    let fit = pdu_fit c.args.train.now _ _ _ c.loop-pdu.invariant.0 (within (goal.at.overflow_add-bits c).In-loop-pdu) in
    let sent = rw c.as_slice-pdu-items.ensures.value at c.sent_bits-bits.ensures in
    omega (arith, sent, sent_within _ _ fit, fit.to_3456, (reached_small c.args.train.now _ _ _ c.loop-pdu.invariant.0).0)

pub loop-pdu-preserved : goal.loop-pdu-preserved
loop-pdu-preserved c =
    let at = c.loop-pdu.invariant.0 in
    let less = within (goal.at.loop-pdu-preserved c).In-loop-pdu in
    let more = carriers_48 _ _ _ (rw c.as_slice-pdu-items.ensures.value at c.symbols-more.ensures.0) in
    let bits_is = rw c.as_slice-pdu-items.ensures.value at c.sent_bits-bits.ensures in
    let put = rw c.as_slice-pdu-items.ensures.value at c.soften.ensures in (
      reached_again c.args.train.now _ _ _ at less _ _ bits_is more,
      soften_on c.args.train.now _ _ _ at less _ _ _ _ _ _ _ c.requires.room c.loop-pdu.invariant.1 more bits_is put,
    )

pub returns : goal.returns
returns c =
    c.loop-pdu.invariant.1
    ∙ ap (λ (n : ℕ). filled n (list_soft (pdus_in c.args.train.now) c.args.i.now c.args.q.now) c.args.soft.now)
    (reached_all c.args.train.now _ _ _ c.loop-pdu.invariant.0 (rw c.as_slice-pdu-items.ensures.value at c.loop-pdu-test.false)).0
