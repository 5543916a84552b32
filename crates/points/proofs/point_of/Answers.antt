-- `points::point_of` meets its contract: on each axis one product, of the level that the callee gives.
-- Assumes nothing.
use native.Mathlib.Omega.{arith}
use Rattle.points.specs.Points.{part}
use mir.Syntax.{w16}
use Rattle.laws.proofs.SignedLaws.{kept}
use Rattle.points.proofs.point_of.Goals as goal

pub returns : goal.returns
unfolding part
returns c =
    let l = c.levels_of-i in
    (cc (kept w16 l.result.0 (omega arith) l.ensures.0), cc (kept w16 l.result.1 (omega arith) l.ensures.1))
