-- `search::step::enter` leads into four states over two crossings (StepLaws).
-- Assumes nothing.
use Rattle.std.proofs.Common.{◌≡◌, ◌+◌, ◌<◌, refl, ◌∙◌, arith}
use Rattle.search.proofs.StepLaws.{mask_x_lem, entered}
use Rattle.search.proofs.step.enter.Goals as goal

pub returns : goal.returns
returns c =
    let j = c.args.j in
    let masks = c.args.masks.now in
    let small = c.args.pair.small in
    let more : j + 16 < 32 = omega arith in
    let up : j + 16 + 32 ≡ j + 48 = omega arith in
    let x_mask = masks.of_x.mask j (omega arith) in
    let a = c.branch_of-a.ensures _ x_mask (masks.of_y.mask j (omega arith)) in
    let b = c.branch_of-b.ensures _ (x_mask ∙ mask_x_lem j c.requires) (masks.of_y.mask (j + 16) more) in
    let near = entered _ _ _ _ _ j _ _ small (omega arith) refl refl _ _ a refl _ _ _ _ c.cross-near.ensures in
    let far = entered _ _ _ _ _ (j + 16) _ _ small more (omega arith) (omega arith) _ _ b refl _ _ _ _ c.cross-far.ensures in
    record {
      costs = record { first = near.low_is; second = far.low_is; third = near.high_is; fourth = rw up at far.high_is };
      gaps = record { first = near.low_by; second = far.low_by; third = near.high_by; fourth = rw up at far.high_by };
    }
