-- `points::levels_of` meets its contract: its levels are table 5's, by the widths of the constellation.
-- Assumes nothing.
use Prim.Native.Nat.{◌/◌}
use native.Mathlib.Omega.{arith}
use Rattle.points.specs.Levels.{width_i, width_q, level_i, level_q}
use mir.Syntax.{w16}
use Rattle.laws.proofs.SignedLaws.{kept}
use Rattle.points.proofs.LevelLaws.{shifted}
use Rattle.points.proofs.levels_of.Goals as goal

pub returns : goal.returns
unfolding level_i level_q width_i width_q
returns c =
    let w = c.bits_per_carrier-b.result / 2 in (
      kept w16 c.level_of-on_i.result c.level_of-on_i.type_inv (cc),
      kept w16 c.level_of-on_q.result c.level_of-on_q.type_inv (cc (shifted w (omega arith))),
    )
