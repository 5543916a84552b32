-- `modes::Pdu::symbols` is N over the information bits per symbol.
-- Assumes nothing.
use mathlib.Core.Path.{sym, ◌∙◌, ap}
use Prim.Native.Nat.{ℕ, ◌/◌}
use Rattle.modes.specs.Sizes.{symbols}
use Rattle.modes.proofs.ModeLaws.{by_enums}
use Rattle.modes.proofs.SizeLaws.{symbols_within}
use Rattle.modes.proofs.Pdu.symbols.Goals as goal

pub returns : goal.returns
unfolding symbols
returns c =
    let i = (by_enums _ _ c.requires.from_1 c.requires.to_7).2 in
    let e = ap (λ (i : ℕ). c.args.self.n / i) (c.info_per_symbol.ensures.0 ∙ sym i) in
    (e, rw e (symbols_within _ _ c.requires))
