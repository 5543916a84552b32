-- `points::bits_ok` meets its contract.
-- Assumes nothing.
use Rattle.std.proofs.Common.{rules}
use Rattle.points.proofs.BitLaws.{bits_by}
use Rattle.points.proofs.bits_ok.Goals as goal

pub returns : goal.returns
returns c = bits_by _ _ (search rules)
