-- `soft::Held::folded` meets its contract: it does not wrap, since at most three bits are left.
-- Assumes nothing.
use Prim.Native.Nat.{◌≤◌}
use native.Mathlib.Omega.{arith}
use lib.Pow.{pow_mono}
use Rattle.soft.specs.Closed.{folded}
use Rattle.soft.proofs.Held.folded.Goals as goal

pub invariant_of-result : goal.invariant_of-result
invariant_of-result c =
    let few : c.args.v ≤ 3 = omega arith in
    record { within = omega (arith, pow_mono few) }

pub returns : goal.returns
unfolding folded
returns c =
    let few : c.args.v ≤ 3 = omega arith in
    omega (arith, pow_mono few)
