-- `modes::description::PduList::total_length` is the sum of the lengths.
-- Assumes nothing.
use mathlib.Core.Path.{refl, ◌∙◌, ap}
use Prim.Native.Nat.{ℕ, ◌+◌}
use native.Mathlib.Omega.{arith}
use Rattle.std.proofs.Common.{rules}
use Rattle.modes.specs.Pdus.{sum_of}
use Rattle.modes.proofs.TestLaws.{length_added, length_all, counted_within, counted_at, counted_past}
use Rattle.modes.proofs.description.PduList.total_length.Goals as goal

pub loop-length-init : goal.loop-length-init
unfolding sum_of
loop-length-init c = (omega arith, λ whatever. refl)

pub loop-length-preserved : goal.loop-length-preserved
loop-length-preserved c = (
  search rules,
  λ whatever.
      ap (λ (x : ℕ). c.loop-length.n + x) (counted_at _ _ _ c.loop-length-test.true)
      ∙ length_added c.args.self.now.count whatever _ c.loop-length.length-index (counted_within _ _ _ c.loop-length-test.true) _ (c.loop-length.invariant.1 whatever),
)

pub returns : goal.returns
returns c =
    λ whatever. c.loop-length.invariant.1 whatever
    ∙ length_all _ whatever _ c.loop-length.length-index (counted_past _ c.args.self.now.lengths _ (omega arith) c.loop-length-test.false)
