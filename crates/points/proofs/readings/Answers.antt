-- `points::readings` meets its contract. The loop's invariant: the ideal readings of the carriers passed stand in i and q.
-- Assumes nothing.
use mathlib.Core.Path.{sym}
use native.Mathlib.Omega.{arith}
use mir.Syntax.{w16}
use Rattle.laws.proofs.ListLaws.{filled_none, filled_put}
use Rattle.laws.proofs.SignedLaws.{kept}
use Rattle.points.specs.Points.{ideal_i, ideal_q}
use Rattle.points.proofs.readings.Goals as goal

pub loop-k-init : goal.loop-k-init
loop-k-init c = record { on_i = sym (filled_none _ _); on_q = sym (filled_none _ _) }

pub loop-k-preserved : goal.loop-k-preserved
loop-k-preserved c =
    let r = c.ideal_of in
    let so_far = c.loop-k.invariant in
    record {
      on_i = filled_put _ (ideal_i _ _) _ _ _ so_far.on_i (kept w16 r.result.0 (omega arith) r.ensures.0) (omega arith);
      on_q = filled_put _ (ideal_q _ _) _ _ _ so_far.on_q (kept w16 r.result.1 (omega arith) r.ensures.1) (omega arith);
    }
