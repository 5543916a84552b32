-- `modes::mode_of` gives table 1's constellation and rate.
-- Assumes nothing.
use mathlib.Core.Path.{◌≡◌, refl}
use Prim.Native.Nat.{ℕ}
use native.Mathlib.Omega.{arith}
use Rattle.modes.specs.Modes.{constellation_of, rate_of, constellation_in, rate_in, row_of, table1, no_mode}
use Rattle.modes.proofs.ModeLaws.{by_mode, row_of_none}
use Rattle.modes.proofs.mode_of.Goals as goal

pub returns-in-1 : goal.returns-in-1
unfolding constellation_of rate_of constellation_in rate_in row_of table1
returns-in-1 c = rw c.in-1.is (refl, refl)

pub returns-in-2 : goal.returns-in-2
unfolding constellation_of rate_of constellation_in rate_in row_of table1
returns-in-2 c = rw c.in-2.is (refl, refl)

pub returns-in-3 : goal.returns-in-3
unfolding constellation_of rate_of constellation_in rate_in row_of table1
returns-in-3 c = rw c.in-3.is (refl, refl)

pub returns-in-4 : goal.returns-in-4
unfolding constellation_of rate_of constellation_in rate_in row_of table1
returns-in-4 c = rw c.in-4.is (refl, refl)

pub returns-in-5 : goal.returns-in-5
unfolding constellation_of rate_of constellation_in rate_in row_of table1
returns-in-5 c = rw c.in-5.is (refl, refl)

pub returns-in-6 : goal.returns-in-6
unfolding constellation_of rate_of constellation_in rate_in row_of table1
returns-in-6 c = rw c.in-6.is (refl, refl)

pub returns-in-7 : goal.returns-in-7
unfolding constellation_of rate_of constellation_in rate_in row_of table1
returns-in-7 c = rw c.in-7.is (refl, refl)

pub returns-in_default : goal.returns-in_default
unfolding constellation_of rate_of constellation_in rate_in no_mode
returns-in_default c =
    let k = c.args.number in
    rw (row_of_none k (λ low high. by_mode (λ (j : ℕ). k ≡ j → ⊥)
    (omega arith) (omega arith) (omega arith) (omega arith) (omega arith) (omega arith) (omega arith)
    k low high refl))
    (refl, refl)
