-- `soft::Held::strength` meets its contract: as many borders as there are for one, two or three bits.
-- Assumes nothing.
use Prim.Native.Nat.{◌+◌, ◌-◌}
use native.Mathlib.Omega.{arith}
use Rattle.soft.proofs.ClosedLaws.{strength_one, strength_two, strength_three}
use Rattle.soft.proofs.Held.strength.Goals as goal

pub returns-then-v-eq1 : goal.returns-then-v-eq1
returns-then-v-eq1 c = let p = c.args.self.p in omega (arith, strength_one c.args.v ((p - 2048) + (2048 - p)) (omega arith))

pub returns-then-v-eq2 : goal.returns-then-v-eq2
returns-then-v-eq2 c = let p = c.args.self.p in omega (arith, strength_two c.args.v ((p - 2048) + (2048 - p)) (omega arith))

pub returns : goal.returns
returns c = let p = c.args.self.p in omega (arith, strength_three c.args.v ((p - 2048) + (2048 - p)) (omega arith))
