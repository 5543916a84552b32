-- `places::spread::spread_symbol` puts each soft byte of a symbol at the coded bit that it is of.
-- Assumes nothing.
use Prim.Native.Nat.{◌+◌}
use lib.IntN.{pos}
use lib.ListN.{get_or}
use Rattle.laws.specs.Scatter.{Placed}
use Rattle.laws.specs.Signed.{counted}
use Rattle.places.specs.Put.{source_by}
use Rattle.places.proofs.spread.spread_symbol.Given as goal

abbrev pub invariant-loop-k : goal.invariant-loop-k
invariant-loop-k l =
    Placed (λ i. source_by l.punctured (l.base + i)) (λ i. counted 128 (get_or l.soft (l.base + get_or l.places i 0) (pos 0))) l.k l.initial.heard l.heard
