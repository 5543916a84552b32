-- `soft::soften` meets its contract. The loop's invariant: the soft bytes of the carriers passed stand in the buffer.
-- Assumes nothing.
use mathlib.Core.Path.{◌≡◌}
use Prim.Native.Nat.{◌*◌}
use Rattle.laws.specs.Lists.{filled}
use Rattle.modes.specs.Modes.{bits_of}
use Rattle.soft.specs.Carriers.{soft_at}
use Rattle.soft.proofs.soften.Given as goal

abbrev pub invariant-loop-k : goal.invariant-loop-k
invariant-loop-k l = l.soft ≡ filled (bits_of l.c * l.k) (soft_at l.c l.i l.q) l.initial.soft
