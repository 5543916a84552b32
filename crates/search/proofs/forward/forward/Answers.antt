-- `search::forward::forward` is the first pass. Each turn is one step (ForwardLaws).
-- Assumes nothing.
use Rattle.std.proofs.Common.{arith}
use Rattle.search.proofs.ForwardLaws.{forward_start, forward_low, forward_near, forward_again}
use Rattle.search.proofs.WordLaws.{chosen_small}
use Rattle.search.proofs.forward.forward.Goals as goal

pub loop-t-init : goal.loop-t-init
loop-t-init c = forward_start _ _ _ _ (omega arith) (omega arith) (λ m. (c.type_inv.heard m).fits) c.started-costs.ensures

pub word_of-requires : goal.word_of-requires
word_of-requires c = chosen_small _ _ c.step-turn.ensures.kept

pub nearest-total-requires : goal.nearest-total-requires
nearest-total-requires c =
    let inv = c.loop-t.invariant in (
      forward_low _ _ _ _ _ _ _ inv,
      record { number = _; near = forward_near _ _ _ _ _ _ _ _ _ _ _ _ inv c.pair_of-pair.ensures c.step-turn.ensures.costs },
    )

pub loop-t-preserved : goal.loop-t-preserved
loop-t-preserved c =
    let inv = c.loop-t.invariant in
    let pair = c.pair_of-pair.ensures in
    let stored = c.step-turn.ensures.costs in
    forward_again _ _ _ _ _ _ _ _ _ _ _ _ inv pair stored _ _ (omega arith)
    (c.nearest-total.ensures _ (forward_near _ _ _ _ _ _ _ _ _ _ _ _ inv pair stored)) (c.word_of.ensures _ c.step-turn.ensures.kept)
