-- `record::Record::run` keeps its promise: the buffers are long enough, so each of the three calls is done (RunLaws).
-- Assumes nothing.
use mathlib.Core.Path.{◌≡◌, refl, ap}
use Prim.Native.Nat.{ℕ, ◌*◌, ◌≤◌}
use native.Mathlib.Omega.{arith}
use lib.ListN.{length-take}
use Rattle.modes.specs.Sizes.{carriers}
use Rattle.modes.proofs.RefusalNumbers.{done_ok}
use Rattle.record.proofs.RunLaws.{few_sent, few_carriers, said_encode, said_ideal, said_decoded, encoded_done, taken_done, run_done}
use Rattle.record.proofs.Record.run.Goals.{After-description-by}
use Rattle.record.proofs.Record.run.Goals as goal

all : (c : After-description-by) → 48 * c.args.sizes.symbols ≡ carriers c.args.self.now.mode c.args.self.now.n
unfolding carriers
all c = ap (λ (k : ℕ). 48 * k) c.requires.sizes.0

sent_room : (c : After-description-by) → c.args.sizes.sent ≤ 864
sent_room c = omega (arith, c.requires.sizes.1, few_sent _ c.args.self.now.counter _ c.args.self.now.a c.requires.tested.0 c.requires.tested.1)

axis_room : (c : After-description-by) → 48 * c.args.sizes.symbols ≤ 864
axis_room c = omega (arith, all c, few_carriers _ c.args.self.now.counter _ c.args.self.now.a c.requires.tested.0 c.requires.tested.1)

pub overflow_mul-carriers : goal.overflow_mul-carriers
overflow_mul-carriers c = omega (arith, axis_room (goal.at.overflow_mul-carriers c).After-description-by)

pub unwrap-requires : goal.unwrap-requires
unwrap-requires c =
    done_ok _
    (encoded_done _ _ _ _ c.requires.tested.0 c.requires.tested.1 _ _ _ _ c.requires.octets_long refl
    (said_encode _ _ _ _ _ c.description-by.ensures _ _ _ _ c.encode.ensures))

pub slice_bounds-sent-end : goal.slice_bounds-sent-end
slice_bounds-sent-end c = omega (arith, sent_room (goal.at.slice_bounds-sent-end c).After-description-by, c.encode.auto.sent)

pub slice_bounds-ideal-end : goal.slice_bounds-ideal-end
slice_bounds-ideal-end c =
    omega (arith, sent_room (goal.at.slice_bounds-ideal-end c).After-description-by, c.encode.auto.sent, length-take c.args.sizes.sent c.encode.new.sent)

pub unwrap-requires-2 : goal.unwrap-requires-2
unwrap-requires-2 c =
    done_ok _
    (taken_done _ _ _ _ c.requires.tested.0 c.requires.tested.1 _ _ _ _ _ _ _ _ _ _ c.requires.octets_long refl refl refl c.requires.sizes.1
    (said_encode _ _ _ _ _ c.description-by.ensures _ _ _ _ c.encode.ensures) (said_ideal _ _ _ _ _ c.description-by.ensures _ _ _ _ _ _ c.ideal.ensures))

pub slice_bounds-i-end : goal.slice_bounds-i-end
slice_bounds-i-end c = omega (arith, axis_room (goal.at.slice_bounds-i-end c).After-description-by, c.ideal.auto.i)

pub slice_bounds-decode_readings-end : goal.slice_bounds-decode_readings-end
slice_bounds-decode_readings-end c =
    omega
    (arith, axis_room (goal.at.slice_bounds-decode_readings-end c).After-description-by, c.ideal.auto.i, length-take (48 * c.args.sizes.symbols) c.ideal.new.i)

pub slice_bounds-q-end : goal.slice_bounds-q-end
slice_bounds-q-end c = omega (arith, axis_room (goal.at.slice_bounds-q-end c).After-description-by, c.ideal.auto.q)

pub slice_bounds-decode_readings-end-2 : goal.slice_bounds-decode_readings-end-2
slice_bounds-decode_readings-end-2 c =
    omega
    (arith, axis_room (goal.at.slice_bounds-decode_readings-end-2 c).After-description-by, c.ideal.auto.q, length-take (48 * c.args.sizes.symbols) c.ideal.new.q)

pub unwrap-answer-requires : goal.unwrap-answer-requires
unwrap-answer-requires c =
    done_ok _
    (run_done _ _ _ _ c.requires.tested.0 c.requires.tested.1 _ _ _ _ _ _ _ _ _ _ _ _ _ _ _ (λ k. (c.type_inv.octets k).fits)
    c.requires.octets_long refl refl refl refl refl c.requires.sizes.1 (all (goal.at.unwrap-answer-requires c).After-description-by)
    (said_encode _ _ _ _ _ c.description-by.ensures _ _ _ _ c.encode.ensures) (said_ideal _ _ _ _ _ c.description-by.ensures _ _ _ _ _ _ c.ideal.ensures)
    (said_decoded _ _ _ _ _ c.description-by.ensures _ _ _ _ _ _ c.decode_readings.ensures)).0

pub returns : goal.returns
returns c =
    rw c.from.ensures
    (run_done _ _ _ _ c.requires.tested.0 c.requires.tested.1 _ _ _ _ _ _ _ _ _ _ _ _ _ _ _ (λ k. (c.type_inv.octets k).fits)
    c.requires.octets_long refl refl refl refl refl c.requires.sizes.1 (all (goal.at.returns c).After-description-by)
    (said_encode _ _ _ _ _ c.description-by.ensures _ _ _ _ c.encode.ensures) (said_ideal _ _ _ _ _ c.description-by.ensures _ _ _ _ _ _ c.ideal.ensures)
    (said_decoded _ _ _ _ _ c.description-by.ensures _ _ _ _ _ _ (rw c.unwrap-answer.ensures at c.decode_readings.ensures))).1
