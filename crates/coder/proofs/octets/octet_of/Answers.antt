-- `coder::octets::octet_of` descrambles eight bits into an octet.
-- Assumes nothing.
use Rattle.std.proofs.Common.{◌≡◌, refl, ◌∙◌, arith}
use Rattle.coder.specs.Scrambler.{octet_at}
use Rattle.coder.proofs.OctetLaws.{writing_none, writing_again}
use Rattle.coder.proofs.octets.octet_of.Goals as goal

pub loop-j-init : goal.loop-j-init
loop-j-init c = writing_none _ _ _ _ _ c.requires.3

pub loop-j-preserved : goal.loop-j-preserved
loop-j-preserved c =
    let step = rw c.start_at.ensures at c.step.ensures in
    rw c.from.ensures (writing_again _ _ _ _ _ _ _ _ _ c.loop-j.invariant step.output.0 step.state)

pub returns : goal.returns
returns c =
    let all : c.loop-j.j ≡ 8 = omega arith in
    let whole = rw all at c.loop-j.invariant in
    (whole.bits ∙ (unfold octet_at in refl), whole.scrambler)
