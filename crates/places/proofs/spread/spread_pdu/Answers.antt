-- `places::spread::spread_pdu` spreads a PDU's soft bytes symbol by symbol.
-- Assumes nothing.
use mathlib.Core.Path.{◌≡◌, refl}
use Prim.Native.Nat.{◌*◌, ◌<◌}
use native.Mathlib.Omega.{arith}
use Rattle.modes.specs.Modes.{bits_of, number}
use Rattle.modes.specs.Sizes.{symbols}
use Rattle.places.proofs.SendLaws.{front_long, front_seats, symbol_inside, sources_fewer}
use Rattle.places.proofs.SpreadLaws.{spreading_none, spreading_again, spreading_done}
use Rattle.places.proofs.spread.spread_pdu.Goals as goal

pub loop-symbol-init : goal.loop-symbol-init
loop-symbol-init c = spreading_none _ _ _ _ _ _

pub spread_symbol-requires-clause-seats : goal.spread_symbol-requires-clause-seats
spread_symbol-requires-clause-seats c =
    rw (c.symbol_places-places.ensures, c.bits_per_carrier.ensures.0, front_long c.args.pdu.mode.constellation)
    (front_seats c.args.pdu.mode.constellation _ refl)

pub loop-symbol-preserved : goal.loop-symbol-preserved
loop-symbol-preserved c =
    let constellation = c.args.pdu.mode.constellation in
    let among : c.loop-symbol.symbol < symbols (number c.args.pdu.mode) c.args.pdu.n = omega (arith, c.symbols-symbols.ensures.0) in
    let inside = symbol_inside (48 * bits_of constellation) _ _ among in
    spreading_again _ _ _ _ _ _ _ c.loop-symbol.symbol _ _ (sources_fewer _ _ _ _ _ _ inside c.requires.room.sources) c.loop-symbol.invariant
    (rw (c.symbol_places-places.ensures, c.bits_per_carrier.ensures.0, front_long constellation) at c.spread_symbol.ensures)

pub returns : goal.returns
returns c =
    let all : c.loop-symbol.symbol ≡ symbols (number c.args.pdu.mode) c.args.pdu.n = omega (arith, c.symbols-symbols.ensures.0) in
    rw all at
    (spreading_done _ _ _ _ _ _ _ c.loop-symbol.symbol c.args.pdu.mode.constellation refl (omega (arith, c.bits_per_carrier.ensures)) c.loop-symbol.invariant)
