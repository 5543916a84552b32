-- `search::search` is the first pass and the way back (SearchLaws).
-- Assumes nothing.
use Rattle.search.proofs.SearchLaws.{searched}
use Rattle.search.proofs.search.Goals as goal

pub returns : goal.returns
returns c =
    searched _ _ _ _ (λ m. (c.type_inv.heard m).fits) _ _ _ _
    c.forward-cost.ensures.cost c.forward-cost.ensures.decided c.follow.ensures.found c.follow.ensures.zeroed
