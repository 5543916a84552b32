-- `places::send_pdu` sends a PDU symbol by symbol.
-- Assumes nothing.
use mathlib.Core.Path.{◌≡◌, refl}
use Prim.Native.Nat.{◌*◌, ◌<◌}
use native.Mathlib.Omega.{arith}
use Rattle.modes.specs.Modes.{bits_of, number}
use Rattle.modes.specs.Sizes.{symbols}
use Rattle.places.proofs.SendLaws.{front_long, front_seats, symbol_inside, sent_none, sent_again}
use Rattle.places.proofs.send_pdu.Goals as goal

pub loop-symbol-init : goal.loop-symbol-init
loop-symbol-init c = sent_none _ _ _ _ _ _

pub send_symbol-requires-clause-seats : goal.send_symbol-requires-clause-seats
send_symbol-requires-clause-seats c =
    rw (c.symbol_places-places.ensures, c.bits_per_carrier.ensures.0, front_long c.args.pdu.mode.constellation)
    (front_seats c.args.pdu.mode.constellation _ refl)

pub loop-symbol-preserved : goal.loop-symbol-preserved
loop-symbol-preserved c =
    let constellation = c.args.pdu.mode.constellation in
    let among : c.loop-symbol.symbol < symbols (number c.args.pdu.mode) c.args.pdu.n = omega (arith, c.symbols-symbols.ensures.0) in
    let inside = symbol_inside (48 * bits_of constellation) _ _ among in
    sent_again constellation _ refl _ _ _ _ _ _ _ c.loop-symbol.symbol (omega (arith, inside, c.requires.room.room)) c.loop-symbol.invariant
    (rw (c.symbol_places-places.ensures, c.bits_per_carrier.ensures.0, front_long constellation) at c.send_symbol.ensures)

pub returns : goal.returns
returns c =
    let all : c.loop-symbol.symbol ≡ symbols (number c.args.pdu.mode) c.args.pdu.n = omega (arith, c.symbols-symbols.ensures.0) in
    rw all at c.loop-symbol.invariant.bits
