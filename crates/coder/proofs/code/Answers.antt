-- `coder::code`: the bits before the scrambler's first, and then the others.
-- Assumes nothing.
use Rattle.std.proofs.Common.{arith}
use Rattle.coder.proofs.CodeLaws.{coded_both}
use Rattle.coder.proofs.code.Goals as goal

pub returns : goal.returns
returns c =
    let before = rw (c.resting-resting.ensures, c.empty-register.ensures) at c.code_on.ensures in
    let after = rw c.started-started.ensures at c.code_on-2.ensures in
    coded_both _ _ _ _ _ _ _ _ _ (omega arith) (omega arith) before after
