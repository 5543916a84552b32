-- `search::step::step` enters all 64 states, four at a time (StepLaws).
-- Assumes nothing.
use Rattle.search.specs.Stored.{paired, gap_at, cost_at}
use Rattle.search.specs.Kept.{Quarters}
use Rattle.search.proofs.step.step.Given as goal

abbrev pub invariant-loop-j : goal.invariant-loop-j
invariant-loop-j g l =
    let cost = paired l.pair.x0 l.pair.x1 l.pair.y0 l.pair.y1 in
    record { costs : Quarters (cost_at l.old cost) l.j l.costs; kept : g.K.Kept.keeps_below (gap_at l.old cost) l.j l.kept }
