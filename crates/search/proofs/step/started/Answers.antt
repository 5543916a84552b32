-- `search::step::started` puts state 0 at cost 0 and the others at the start cost.
-- Assumes nothing.
use Rattle.std.proofs.Common.{refl}
use Rattle.search.proofs.StepLaws.{stored_by}
use Rattle.search.proofs.step.started.Goals as goal

pub returns : goal.returns
returns c = stored_by _ _ refl refl
