-- `points::level_of` meets its contract: its rows are table 5's, which antt computes, and beyond them table 5 gives nothing.
-- Assumes nothing.
use mathlib.Core.Path.{refl}
use Rattle.laws.specs.Lists.{tabulate}
use Rattle.points.specs.Levels.{one, two, three, table, level}
use mir.Syntax.{w16}
use Rattle.laws.proofs.SignedLaws.{kept}
use Rattle.points.proofs.LevelLaws.{rows, none_past}
use Rattle.points.proofs.level_of.Goals as goal

pub returns-then-bits-lt8 : goal.returns-then-bits-lt8
unfolding tabulate one two three table level
returns-then-bits-lt8 c =
    kept w16 _ c.result-then-bits-lt8-1.given
    (rows _ refl c.args.width c.args.bits c.requires c.if-bits-lt8.true)

pub returns-else-bits-lt8 : goal.returns-else-bits-lt8
returns-else-bits-lt8 c = none_past c.args.width c.args.bits c.if-bits-lt8.false
