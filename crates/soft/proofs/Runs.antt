-- The runs of the two tests: S in closed form, six bits at 4,097 readings, and the soft bytes of ideal readings.
-- Assumes nothing.
use lib.Dec.{T}
use Rattle.laws.specs.Signed.{above}
use Rattle.laws.specs.Sums.{total}
use Rattle.points.specs.Levels.{one, two, three, table, level}
use Rattle.points.specs.Points.{reading}
use Rattle.soft.specs.Soft.{held, squared, bit_at, distances, least, least_to, s_of, rounded, soft_byte, bit_cost}
use Rattle.soft.specs.Closed.{strength, folded, folded_to, up, down}
use Rattle.soft.proofs.ClosedTest.{ideals, nearest, right, all_right, bit_right, test}
use Rattle.soft.proofs.IdealTest.{ideal_byte, free, dear, is_clear, ideal_test}

pub tested : T test
unfolding total one two three table reading squared bit_at least strength folded folded_to up down ideals nearest right all_right bit_right test
tested = tt

pub ideal_tested : T ideal_test
unfolding above one two three table level reading held squared bit_at distances least least_to s_of rounded soft_byte bit_cost ideal_byte free dear is_clear ideal_test
ideal_tested = tt
