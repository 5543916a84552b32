-- `search::words::follow` goes back from state 0, one word a turn (FollowLaws).
-- Assumes nothing.
use Rattle.search.proofs.FollowLaws.{Following}
use Rattle.search.proofs.words.follow.Given as goal

abbrev pub invariant-loop-t : goal.invariant-loop-t
invariant-loop-t l = Following l.n l.initial.train l.initial.words l.train l.words l.s l.t
