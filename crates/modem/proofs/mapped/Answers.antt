-- `modem::mapped` keeps its promise, test by test (PointLaws).
-- Assumes nothing.
use mathlib.Core.Path.{◌≡◌, refl}
use Prim.Native.Nat.{◌*◌, ◌%◌, ◌^◌, ◌≤◌}
use native.Mathlib.Omega.{arith}
use Rattle.std.proofs.lemmas.Result.{err_from_is_err_and}
use Rattle.modes.specs.Modes.{bits}
use Rattle.modes.proofs.RefusalNumbers.{above_0}
use Rattle.modem.proofs.PointLaws.{groups_of, refused_as, refusal_mode, mode_known, refusal_9, mapped_done}
use Rattle.modem.proofs.mapped.Goals.{After-bits_per_carrier}
use Rattle.modem.proofs.mapped.Goals as goal

known : (c : After-bits_per_carrier) → (1 ≤ c.args.mode) × (c.args.mode ≤ 7)
known c = mode_known _ c.in_ok-c.ensures.answer

-- the groups that are counted are the mode's
counted : (c : After-bits_per_carrier) → 1 * 2 ^ c.bits_per_carrier.result % 2 ^ 32 ≡ 2 ^ bits c.args.mode
counted c = groups_of _ _ _ (known c).0 (known c).1 c.in_ok-c.ensures.done.0 c.bits_per_carrier.ensures.0

pub returns-in_err-c : goal.returns-in_err-c
returns-in_err-c c =
    let p = err_from_is_err_and c.from_residual.result c.from_residual.ensures.1 in
    rw (p.1, p.2) (refused_as _ _ _ _ _ _ (refusal_mode _ _ _ c.in_err-c.ensures.answer (above_0 _)) (above_0 _) (refl, refl, refl))

pub returns-then-bits_per_carrier-group : goal.returns-then-bits_per_carrier-group
returns-then-bits_per_carrier-group c =
    let turn = (goal.at.returns-then-bits_per_carrier-group c).After-bits_per_carrier in
    let mode = known turn in
    refused_as _ _ 9 _ _ _ (refusal_9 _ _ mode.0 mode.1 (omega (arith, counted turn))) (λ z. omega arith) (refl, refl, refl)

pub returns : goal.returns
returns c =
    let turn = (goal.at.returns c).After-bits_per_carrier in
    let mode = known turn in
    mapped_done _ _ _ _ _ mode.0 mode.1 (omega (arith, counted turn)) c.in_ok-c.ensures.done.0 c.point_of.ensures
