-- `soft::soft_ok` meets its contract.
-- Assumes nothing.
use Rattle.std.proofs.Common.{rules}
use Rattle.soft.proofs.RangeLaws.{soft_by}
use Rattle.soft.proofs.soft_ok.Goals as goal

pub returns : goal.returns
returns c = soft_by _ _ (search rules)
