-- `coder::code_on` codes some of the inputs. Each turn is one step of scrambler and register (CodeLaws).
-- Assumes nothing.
use Rattle.coder.proofs.CodeLaws.{Coding}
use Rattle.coder.proofs.code_on.Given as goal

abbrev pub invariant-loop-t : goal.invariant-loop-t
invariant-loop-t l =
    let at = l.initial in
    Coding l.n l.octets l.from at.scrambler.state at.register.bits at.coded l.coded l.scrambler.state l.register.bits l.t
