-- `places::puncture::p2_origin` is P2, rate by rate.
-- Assumes nothing.
use mathlib.Core.Path.{refl}
use Rattle.places.specs.Selection.{origin}
use Rattle.places.specs.Puncture.{p2, p2_kept_3_4, p2_kept_9_16}
use Rattle.places.proofs.puncture.p2_origin.Goals as goal

pub returns-in-Half : goal.returns-in-Half
unfolding origin p2
returns-in-Half c = rw c.in-Half.is refl

pub returns-in-ThreeQuarters : goal.returns-in-ThreeQuarters
unfolding origin p2 p2_kept_3_4
returns-in-ThreeQuarters c = rw (c.in-ThreeQuarters.is, c.p2_kept_3_4.ensures.0) refl

pub returns-in-NineSixteenths : goal.returns-in-NineSixteenths
unfolding origin p2 p2_kept_9_16
returns-in-NineSixteenths c = rw (c.in-NineSixteenths.is, c.p2_kept_9_16.ensures.0) refl
