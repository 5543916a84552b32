-- `coder::code_on` codes some of the inputs. Each turn is one step of scrambler and register (CodeLaws).
-- Assumes nothing.
use Rattle.coder.proofs.CodeLaws.{coding_start, coding_again}
use Rattle.coder.proofs.code_on.Goals as goal

pub loop-t-init : goal.loop-t-init
loop-t-init c = coding_start _ _ _ _ _ _

pub loop-t-preserved : goal.loop-t-preserved
loop-t-preserved c =
    coding_again _ _ _ _ _ _ _ _ _ _ _ _ _ _ c.loop-t.invariant c.input_bit-bit.ensures.0 c.step.ensures.state c.enter.ensures c.put_pair.ensures
