-- The constants K of QPSK, 16QAM and 64QAM are the f32 nearest to 1/sqrt(2), 1/sqrt(10) and 1/sqrt(42).
-- Assumes nothing.
use mathlib.Core.Path.{refl}
use lib.Dec.{lit<}
use lib.Ieee.{of_bits}
use Rattle.modes.specs.declared.Constellation.TheVariants.{Qpsk, Qam16, Qam64}
use Rattle.points.specs.Points.{Nearest}

pub nearest : Nearest Qpsk 2 11863283 24 × Nearest Qam16 10 10610843 25 × Nearest Qam64 42 10355123 26
unfolding of_bits
nearest = (
  record { exact = refl; normal = (lit< tt, lit< tt); above = lit< tt; below = lit< tt },
  record { exact = refl; normal = (lit< tt, lit< tt); above = lit< tt; below = lit< tt },
  record { exact = refl; normal = (lit< tt, lit< tt); above = lit< tt; below = lit< tt },
)
