-- `modes::train::Train::counts` sums the sizes of the PDUs.
-- Assumes nothing.
use Prim.Native.Nat.{◌<◌}
use native.Mathlib.Omega.{arith}
use Rattle.modes.specs.Description.{Fit}
use Rattle.modes.specs.Modes.{number}
use Rattle.modes.proofs.SizeLaws.{sent_within}
use Rattle.modes.proofs.DescriptionLaws.{pdu_at, count_in, held_fit, counted_none, counted_small, counted_again, counted_all}
use Rattle.modes.proofs.train.Train.counts.Goals as goal
use Rattle.modes.proofs.train.Train.counts.Goals.{In-loop-pdu}

within : (c : In-loop-pdu) → c.loop-pdu.pdu-index < count_in c.args.self.now
within c = rw c.as_slice-pdu-items.ensures.value at c.loop-pdu-test.true

fit : (c : In-loop-pdu) → Fit (number (pdu_at c.args.self.now c.loop-pdu.pdu-index).mode) (pdu_at c.args.self.now c.loop-pdu.pdu-index).n
fit c = held_fit c.args.self.now _ (within c)

pub loop-pdu-init : goal.loop-pdu-init
loop-pdu-init c = counted_none c.args.self.now

pub overflow_add-counts : goal.overflow_add-counts
overflow_add-counts c =
    let in_loop = (goal.at.overflow_add-counts c).In-loop-pdu in
    rw c.as_slice-pdu-items.ensures.value
    (omega (arith, (counted_small c.args.self.now _ _ _ _ c.loop-pdu.invariant).0, (fit in_loop).to_3456))

pub symbols-requires : goal.symbols-requires
symbols-requires c = rw c.as_slice-pdu-items.ensures.value (fit (goal.at.symbols-requires c).In-loop-pdu)

pub overflow_add-counts-in-loop-pdu : goal.overflow_add-counts-in-loop-pdu
overflow_add-counts-in-loop-pdu c =
    omega (arith, (counted_small c.args.self.now _ _ _ _ c.loop-pdu.invariant).1, c.symbols.ensures.1)

pub sent_bits-requires : goal.sent_bits-requires
sent_bits-requires c = rw c.as_slice-pdu-items.ensures.value (fit (goal.at.sent_bits-requires c).In-loop-pdu)

pub overflow_add-counts-in-loop-pdu-2 : goal.overflow_add-counts-in-loop-pdu-2
overflow_add-counts-in-loop-pdu-2 c =
    let in_loop = (goal.at.overflow_add-counts-in-loop-pdu-2 c).In-loop-pdu in
    let sent = rw c.as_slice-pdu-items.ensures.value at c.sent_bits.ensures in
    omega (arith, (counted_small c.args.self.now _ _ _ _ c.loop-pdu.invariant).2, sent, sent_within _ _ (fit in_loop), (fit in_loop).to_3456)

pub loop-pdu-preserved : goal.loop-pdu-preserved
loop-pdu-preserved c =
    let in_loop = (goal.at.loop-pdu-preserved c).In-loop-pdu in
    let symbols = rw c.as_slice-pdu-items.ensures.value at c.symbols.ensures.0 in
    let sent = rw c.as_slice-pdu-items.ensures.value at c.sent_bits.ensures in
    rw c.as_slice-pdu-items.ensures.value
    (counted_again c.args.self.now _ _ _ _ c.loop-pdu.invariant _ _ (within in_loop) symbols sent)

pub returns-clause-n : goal.returns-clause-n
returns-clause-n c = (counted_all c.args.self.now _ _ _ _ c.loop-pdu.invariant (rw c.as_slice-pdu-items.ensures.value at c.loop-pdu-test.false)).0

pub returns-clause-symbols : goal.returns-clause-symbols
returns-clause-symbols c = (counted_all c.args.self.now _ _ _ _ c.loop-pdu.invariant (rw c.as_slice-pdu-items.ensures.value at c.loop-pdu-test.false)).1

pub returns-clause-sent : goal.returns-clause-sent
returns-clause-sent c = (counted_all c.args.self.now _ _ _ _ c.loop-pdu.invariant (rw c.as_slice-pdu-items.ensures.value at c.loop-pdu-test.false)).2
