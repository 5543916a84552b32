-- `search::step::branch_of` is the cost of a register with these masks.
-- Assumes nothing.
use Rattle.std.proofs.Common.{refl}
use Rattle.search.proofs.StepLaws.{branch_by}
use Rattle.search.proofs.step.branch_of.Goals as goal

pub returns : goal.returns
returns c = branch_by _ _ _ _ _ _ c.masked.result c.masked-2.result _ c.args.pair.small c.masked.ensures c.masked-2.ensures refl
