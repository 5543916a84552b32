-- `soft::Held::of` meets its contract: the clamp is the reading held, and its distance from -2,048 is what it counts from there.
-- Assumes nothing.
use mathlib.Core.Path.{◌∙◌}
use native.Mathlib.Omega.{arith}
use Rattle.soft.proofs.HeldLaws.{held_by}
use Rattle.soft.proofs.Held.of.Goals as goal

pub returns : goal.returns
returns c = c.from.ensures ∙ held_by _ _ _ (omega arith) c.clamp.ensures.value c.abs_diff.ensures
