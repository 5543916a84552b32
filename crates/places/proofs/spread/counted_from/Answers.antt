-- `places::spread::counted_from` counts a soft byte from -128.
-- Assumes nothing.
use mathlib.Core.Path.{◌∙◌}
use Rattle.places.proofs.CountedLaws.{counted_by}
use Rattle.places.proofs.spread.counted_from.Goals as goal

pub returns : goal.returns
returns c = c.abs_diff.ensures ∙ counted_by c.args.soft c.ranges.soft.sfits
