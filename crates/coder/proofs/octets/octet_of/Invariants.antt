-- `coder::octets::octet_of` descrambles eight bits into an octet.
-- Assumes nothing.
use Rattle.coder.proofs.OctetLaws.{Writing}
use Rattle.coder.proofs.octets.octet_of.Given as goal

abbrev pub invariant-loop-j : goal.invariant-loop-j
invariant-loop-j l = Writing l.first l.counter l.train l.k l.octet l.scrambler.state l.j
