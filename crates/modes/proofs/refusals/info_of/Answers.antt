-- `modes::refusals::info_of` is table 1's last column.
-- Assumes nothing.
use mathlib.Core.Path.{sym, ◌∙◌, ap₂, subst}
use Prim.Native.Nat.{ℕ, ◌<◌}
use Rattle.modes.specs.Modes.{info_of}
use Rattle.modes.proofs.ModeLaws.{columns, info_above_0}
use Rattle.modes.proofs.refusals.info_of.Goals as goal

pub returns : goal.returns
returns c =
    let k = c.args.mode in
    let p = c.requires in
    let e = c.info_per_symbol.ensures.0 ∙ ap₂ info_of c.mode_of.ensures.0 c.mode_of.ensures.1 ∙ sym (columns k p.0 p.1).2 in
    (e, subst (λ (n : ℕ). 0 < n) (sym e) (info_above_0 k p.0 p.1))
