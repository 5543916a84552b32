-- `search::forward::forward` is the first pass. Each turn is one step (ForwardLaws).
-- Assumes nothing.
use Rattle.search.proofs.ForwardLaws.{Forward}
use Rattle.search.proofs.forward.forward.Given as goal

abbrev pub invariant-loop-t : goal.invariant-loop-t
invariant-loop-t l = Forward l.n l.heard l.initial.words l.words l.costs l.total l.t
