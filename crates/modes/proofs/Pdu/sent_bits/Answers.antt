-- `modes::Pdu::sent_bits` is the symbols times the sent bits per symbol.
-- Assumes nothing.
use mathlib.Core.Path.{sym, ◌∙◌, ap, ap₂}
use Prim.Native.Nat.{ℕ, ◌*◌}
use Rattle.modes.specs.Sizes.{sent_bits}
use Rattle.modes.proofs.ModeLaws.{by_enums}
use Rattle.modes.proofs.Pdu.sent_bits.Goals as goal

pub returns : goal.returns
unfolding sent_bits
returns c =
    let S = (by_enums _ _ c.requires.from_1 c.requires.to_7).1 in
    ap₂ ◌*◌ c.symbols.ensures.0 (ap (λ (b : ℕ). 48 * b) c.bits_per_carrier-per_symbol.ensures.0 ∙ sym S)
