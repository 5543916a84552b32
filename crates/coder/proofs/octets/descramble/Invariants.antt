-- `coder::octets::descramble` writes a train's octets one after the other.
-- Assumes nothing.
use Rattle.coder.proofs.OctetLaws.{Descrambling}
use Rattle.coder.proofs.octets.descramble.Given as goal

abbrev pub invariant-loop-k : goal.invariant-loop-k
invariant-loop-k l = Descrambling l.first l.counter l.train l.initial.octets l.octets l.scrambler.state l.k
