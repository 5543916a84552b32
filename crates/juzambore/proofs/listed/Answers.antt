-- `juzambore::listed` copies the numbers that the count means.
-- Assumes nothing.
use mathlib.Core.Path.{refl}
use Prim.Native.Nat.{◌<◌, ◌≤◌}
use native.Mathlib.Omega.{arith}
use Rattle.juzambore.proofs.ListedLaws.{copied_none, copied_again, copied_all}
use Rattle.juzambore.proofs.listed.Goals as goal

pub loop-k-init : goal.loop-k-init
loop-k-init c = (refl, copied_none _, copied_none _)

pub loop-k-preserved : goal.loop-k-preserved
loop-k-preserved c =
    let inside : c.loop-k.k < 16 = omega (arith, c.min-k-end.ensures, c.loop-k-test.true) in (
      c.loop-k.invariant.0,
      copied_again _ _ _ _ c.loop-k.invariant.1 inside refl,
      copied_again _ _ _ _ c.loop-k.invariant.2 inside refl,
    )

pub returns-clause-told : goal.returns-clause-told
returns-clause-told c =
    rw c.loop-k.invariant.0
    (copied_all _ _ _ _ _ c.args.count c.loop-k.invariant.1 c.loop-k.invariant.2 c.told-modes c.told-lengths
    (λ before. omega (arith, before, c.min-k-end.ensures, c.loop-k-test.false, c.loop-k.auto.k-end)))

pub returns-clause-rest : goal.returns-clause-rest
returns-clause-rest c j past =
    let behind : c.loop-k.k ≤ j = omega (arith, c.min-k-end.ensures, c.loop-k.auto.k-end, past) in
    (c.loop-k.invariant.1.rest j behind, c.loop-k.invariant.2.rest j behind)
