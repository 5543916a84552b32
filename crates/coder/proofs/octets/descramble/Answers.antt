-- `coder::octets::descramble` writes a train's octets one after the other.
-- Assumes nothing.
use Rattle.std.proofs.Common.{arith}
use Rattle.coder.proofs.OctetLaws.{descrambling_none, descrambling_again}
use Rattle.coder.proofs.octets.descramble.Goals as goal

pub loop-k-init : goal.loop-k-init
loop-k-init c = rw c.resting-scrambler.ensures (descrambling_none _ _ _ _)

pub loop-k-preserved : goal.loop-k-preserved
loop-k-preserved c =
    let inv = c.loop-k.invariant in
    let octet = c.octet_of.ensures in
    descrambling_again _ _ _ _ _ _ _ _ _ inv (omega (arith, inv.long)) octet.0 octet.1
