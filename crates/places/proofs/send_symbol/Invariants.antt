-- `places::send_symbol` puts each bit of a symbol at its place.
-- Assumes nothing.
use Prim.Native.Nat.{◌+◌}
use lib.ListN.{length, get_or}
use Rattle.laws.specs.Scatter.{Scattered}
use Rattle.places.specs.Put.{source_by}
use Rattle.places.proofs.send_symbol.Given as goal

abbrev pub invariant-loop-k : goal.invariant-loop-k
invariant-loop-k l =
    Scattered l.base (length l.places) l.places (λ i. get_or l.coded (source_by l.punctured (l.base + i)) 0) l.k l.initial.sent l.sent
