-- `places::interleaver::symbol_places` copies a symbol's places from the sheet.
-- Assumes nothing.
use native.Mathlib.Omega.{arith}
use Rattle.std.specs.Prelude.{◌≡◌, ◌+◌, ◌-◌, ◌*◌}
use Rattle.modes.specs.Modes.{bits_of}
use Rattle.places.proofs.SheetLaws.{block_copied}
use Rattle.places.proofs.interleaver.symbol_places.Goals as goal

pub returns : goal.returns
returns c =
    let b = c.block_of-block.result in
    let k = 48 * c.bits_per_carrier.result in
    let size : k ≡ 48 * bits_of c.args.c = omega (arith, c.bits_per_carrier.ensures.0) in
    let within : b + k - b ≡ k = omega arith in
    block_copied c.args.c _ _ b k (b + k - b) c.whole_sheet-sheet.ensures
    c.block_of-block.ensures size within c.copy_from_slice.ensures.after
