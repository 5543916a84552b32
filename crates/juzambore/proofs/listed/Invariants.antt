-- `juzambore::listed` copies the numbers that the count means.
-- Assumes nothing.
use mathlib.Core.Path.{◌≡◌}
use Rattle.juzambore.proofs.ListedLaws.{Copied}
use Rattle.juzambore.proofs.listed.Given as goal

abbrev pub invariant-loop-k : goal.invariant-loop-k
invariant-loop-k l = (l.list.count ≡ l.count) × Copied l.modes l.k l.list.modes × Copied l.lengths l.k l.list.lengths
