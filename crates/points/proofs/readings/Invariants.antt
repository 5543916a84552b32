-- `points::readings` meets its contract. The loop's invariant: the ideal readings of the carriers passed stand in i and q.
-- Assumes nothing.
use Rattle.points.specs.Points.{Ideal}
use Rattle.points.proofs.readings.Given as goal

abbrev pub invariant-loop-k : goal.invariant-loop-k
invariant-loop-k l = Ideal l.c l.k l.sent l.initial.i l.initial.q l.i l.q
