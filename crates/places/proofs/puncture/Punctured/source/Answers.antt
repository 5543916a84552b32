-- `places::puncture::Punctured::source` goes back through P2 and then P1.
-- Assumes nothing.
use mathlib.Core.Path.{refl}
use Rattle.places.specs.Sending.{source_of}
use Rattle.places.proofs.puncture.Punctured.source.Goals as goal

pub returns : goal.returns
unfolding source_of
returns c = rw (c.p1_origin.ensures, c.p2_origin.ensures) refl
