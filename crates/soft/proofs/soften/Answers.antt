-- `soft::soften` meets its contract. The loop's invariant: the soft bytes of the carriers passed stand in the buffer.
-- Assumes nothing.
use mathlib.Core.Path.{sym}
use native.Mathlib.Nat.{mul-zero}
use Rattle.laws.proofs.ListLaws.{filled_none}
use Rattle.modes.specs.Modes.{bits_of}
use Rattle.points.proofs.BitLaws.{group_within}
use Rattle.soft.proofs.CarrierLaws.{carrier_filled}
use Rattle.soft.proofs.soften.Goals as goal

pub loop-k-init : goal.loop-k-init
loop-k-init c = rw mul-zero (sym (filled_none _ _))

pub loop-k-preserved : goal.loop-k-preserved
loop-k-preserved c =
    let room = group_within (bits_of c.args.c) _ _ c.loop-k-test.true c.requires.room in
    carrier_filled c.args.c _ _ _ _ _ _ room c.loop-k.invariant c.put_carrier.ensures
