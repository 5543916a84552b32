-- `search::step::step` enters all 64 states, four at a time (StepLaws).
-- Assumes nothing.
use Rattle.std.proofs.Common.{◌≡◌, arith}
use Rattle.search.specs.Stored.{paired, gap_at, cost_at}
use Rattle.search.specs.Kept.{quarters_all}
use Rattle.search.proofs.step.step.Goals as goal

pub loop-j-preserved : goal.loop-j-preserved
loop-j-preserved g c =
    let inv = c.loop-j.invariant in
    let entry = c.enter-entry.ensures in
    let pair = c.args.pair in
    let cost = paired pair.x0 pair.x1 pair.y0 pair.y1 in
    record {
      costs = c.put.ensures (cost_at c.args.old cost) inv.costs entry.costs;
      kept = c.put-in-loop-j.ensures (gap_at c.args.old cost) inv.kept entry.gaps;
    }

pub returns : goal.returns
returns g c =
    let all : c.loop-j.j ≡ 16 = omega arith in
    let inv = rw all at c.loop-j.invariant in
    record { costs = quarters_all _ _ inv.costs; kept = g.met.K.Kept.whole _ _ inv.kept }
