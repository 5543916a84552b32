-- Tables 2 and 3 as the code works them out, and the origin of a bit through P1 and P2 by cases.
-- Assumes nothing.
use mathlib.Core.Path.{◌≡◌, refl}
use Prim.Native.Nat.{ℕ, ◌+◌, ◌-◌, ◌*◌, ◌/◌, ◌%◌, ◌≤◌, ◌<◌}
use native.Mathlib.Omega.{arith}
use lib.Dec.{ltb, eqb}
use borrow.Author.Tests.{lt-ltb, le-ltb}
use lib.ListN.{get_or}
use Rattle.laws.specs.Lists.{choose}
use Rattle.laws.proofs.Tables.{table_rule}
use Rattle.places.specs.Selection.{origin}
use Rattle.places.specs.Puncture.{p1_kept, p2_kept_3_4, p2_kept_9_16, p1}

abbrev p1_rule : ℕ → ℕ
p1_rule r = choose (ltb r 12) r (choose (eqb (r % 2) 0) (r + 2) r)

abbrev rule34 : ℕ → ℕ
rule34 r = choose (ltb r 3) r 5

abbrev rule916 : ℕ → ℕ
rule916 r = choose (ltb r 9) r (choose (ltb r 15) (r + 1) 17)

pub p1_kept_lem : (r : ℕ) → r < 24 → get_or p1_kept r 0 ≡ choose (ltb r 12) r (choose (eqb (r % 2) 0) (r + 2) r)
unfolding p1_kept
p1_kept_lem = table_rule p1_rule p1_kept refl

pub p2_kept_3_4_lem : (r : ℕ) → r < 4 → get_or p2_kept_3_4 r 0 ≡ choose (ltb r 3) r 5
unfolding p2_kept_3_4
p2_kept_3_4_lem = table_rule rule34 p2_kept_3_4 refl

pub p2_kept_9_16_lem : (r : ℕ) → r < 16 → get_or p2_kept_9_16 r 0 ≡ choose (ltb r 9) r (choose (ltb r 15) (r + 1) 17)
unfolding p2_kept_9_16
p2_kept_9_16_lem = table_rule rule916 p2_kept_9_16 refl

-- before the six periods, in them, and behind them
pub p1_before : (a p : ℕ) → p < 2 * a → origin (p1 a) p ≡ p
unfolding origin p1
p1_before a p h = simp (lt-ltb p (2 * a) h)

pub p1_inside : (a p : ℕ) → 2 * a ≤ p → p - 2 * a < 144
    → origin (p1 a) p ≡ 2 * a + (26 * ((p - 2 * a) / 24) + get_or p1_kept ((p - 2 * a) % 24) 0)
unfolding origin p1 p1_kept
p1_inside a p h h' = simp (le-ltb p (2 * a) h, lt-ltb (p - 2 * a) 144 h')

pub p1_behind : (a p : ℕ) → 2 * a ≤ p → 144 ≤ p - 2 * a → origin (p1 a) p ≡ p + 12
unfolding origin p1
p1_behind a p h h' = simp (le-ltb p (2 * a) h, le-ltb (p - 2 * a) 144 h') (omega arith)
