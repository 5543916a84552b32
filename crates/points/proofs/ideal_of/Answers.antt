-- `points::ideal_of` meets its contract: the carrier's group is a part of the sent bits, and the product on each axis fits.
-- Assumes nothing.
use mathlib.Core.Path.{◌≡◌, ◌∙◌}
use native.Mathlib.Omega.{arith}
use Rattle.modes.specs.Modes.{bits_of}
use Rattle.points.specs.Levels.{group}
use Rattle.points.specs.Points.{ideal_i, ideal_q}
use Rattle.points.proofs.BitLaws.{value_part}
use Rattle.points.proofs.LevelLaws.{fits_i, fits_q, product_fits, product_is}
use Rattle.points.proofs.ideal_of.Goals as goal
use Rattle.points.proofs.ideal_of.Goals.{After-value_of}

-- the value that was made is the carrier's group
is_group : (c : After-value_of) → c.value_of.result ≡ group (bits_of c.args.c) c.args.sent.now c.args.k
unfolding group
is_group c =
    let b = c.bits_per_carrier-b in
    rw (← b.ensures.0) (c.value_of.ensures ∙ value_part c.args.sent.now _ _ _ (omega arith) (rw b.ensures.0 c.requires))

pub overflow_mul-result : goal.overflow_mul-result
overflow_mul-result c = let l = c.levels_of-i in product_fits l.result.0 (omega arith) l.ensures.0 (fits_i _ _)

pub overflow_mul-result-2 : goal.overflow_mul-result-2
overflow_mul-result-2 c = let l = c.levels_of-i in product_fits l.result.1 (omega arith) l.ensures.1 (fits_q _ _)

pub returns : goal.returns
unfolding ideal_i ideal_q
returns c =
    let l = c.levels_of-i in
    let g = is_group (goal.at.returns c).After-value_of in (
      rw (← g) (product_is l.result.0 (omega arith) l.ensures.0 (fits_i _ _)),
      rw (← g) (product_is l.result.1 (omega arith) l.ensures.1 (fits_q _ _)),
    )
