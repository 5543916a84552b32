-- `places::spread::spread_symbol` puts each soft byte of a symbol at the coded bit that it is of.
-- Assumes nothing.
use mathlib.Core.Path.{refl}
use Prim.Native.Nat.{◌+◌}
use native.Mathlib.Omega.{arith}
use lib.IntN.{pos}
use lib.ListN.{get_or}
use mir.Syntax.{w8}
use Rattle.std.proofs.Common.{rules}
use Rattle.laws.proofs.SignedLaws.{kept}
use Rattle.laws.proofs.ScatterLaws.{placed_again}
use Rattle.places.proofs.spread.spread_symbol.Goals as goal

pub loop-k-preserved : goal.loop-k-preserved
loop-k-preserved c =
    let sources = c.requires.sources in
    let soft = get_or c.args.soft.now (c.args.base + c.from.result) (pos 0) in
    let counted_soft = rw (kept w8 soft (search rules) refl, c.from.ensures) at c.counted_from.ensures in
    rw c.source.ensures
    (placed_again _ _ _ _ _ c.loop-k.invariant _ counted_soft
    (sources.present _ (omega arith))
    (λ i before. sources.apart _ _ (omega arith) (omega arith)))
