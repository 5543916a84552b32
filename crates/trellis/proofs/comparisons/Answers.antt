-- `trellis::comparisons` evaluates the formula.
-- Assumes nothing.
use native.Mathlib.Omega.{arith}
use Rattle.trellis.proofs.CompareLaws.{formula_compares}
use Rattle.trellis.proofs.comparisons.Goals as goal

pub returns : goal.returns
returns c = formula_compares _ _ c.requires.0 (omega arith)
