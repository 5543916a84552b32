-- `soft::put_carrier` meets its contract: it stores the soft bytes for I, and behind them those for Q.
-- Assumes nothing.
use native.Mathlib.Omega.{arith}
use Rattle.soft.proofs.CarrierLaws.{carrier_stored}
use Rattle.soft.proofs.put_carrier.Goals as goal

pub returns : goal.returns
returns c =
    let b = c.bits_per_carrier-b in
    carrier_stored c.args.c _ _ _ b.result c.of.result.p c.of-2.result.p _ _ _ b.ensures.0
    (omega arith) (omega arith)
    c.of.ensures c.of-2.ensures
    c.put_axis.ensures
    c.put_axis-2.ensures
