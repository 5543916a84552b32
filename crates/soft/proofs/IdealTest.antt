-- The soft bytes of ideal readings: the test of every bit of every level, and the law that turns it into the rule.
-- Assumes nothing.
use mathlib.Core.Path.{◌≡◌}
use mathlib.Core.Bool.{Bool}
use Prim.Native.Nat.{ℕ, zero, suc, ◌-◌, ◌^◌, ◌<◌, ◌≤◌}
use native.Mathlib.Omega.{arith}
use lib.Dec.{T, eqb, leb, eqb→eq, leb→le}
use lib.IntN.{ℤ}
use Rattle.laws.proofs.Tables.{both, both_left, both_right, below, below_at}
use Rattle.points.specs.Levels.{table, level}
use Rattle.points.specs.Points.{reading}
use Rattle.soft.specs.Soft.{bit_at, soft_byte, bit_cost}

-- a soft byte of a bit x that costs nothing for x, and 4 or more for the other value
pub record Clear (s : ℤ) (x : ℕ) : Type 0 where
  pub own : bit_cost s x ≡ 0
  pub other : 4 ≤ bit_cost s (1 - x)

-- the soft byte of bit j of some bits' ideal reading
unfoldable pub ideal_byte : (w j v : ℕ) → ℤ
ideal_byte w j v = soft_byte w j (reading (level (table w) v))

-- its cost for that bit is 0
unfoldable pub free : (w j v : ℕ) → Bool
free w j v = eqb (bit_cost (ideal_byte w j v) (bit_at w j v)) 0

-- its cost for the other value is 4 or more
unfoldable pub dear : (w j v : ℕ) → Bool
dear w j v = leb 4 (bit_cost (ideal_byte w j v) (1 - bit_at w j v))

-- both
unfoldable pub is_clear : (w j v : ℕ) → Bool
is_clear w j v = both (free w j v) (dear w j v)

-- every bit of one, two and three, at every value
unfoldable pub ideal_test : Bool
ideal_test = below (λ u. below (λ j. below (is_clear (suc u) j) (2 ^ suc u)) (suc u)) 3

pub clear_at : T ideal_test → (w j v : ℕ) → j < w → w ≤ 3 → v < 2 ^ w → Clear (ideal_byte w j v) (bit_at w j v)
unfolding free dear is_clear ideal_test
clear_at t zero j v hj hw hv = absurd (omega arith)
clear_at t (suc u) j v hj hw hv =
    let of_w = below_at (λ n. below (λ m. below (is_clear (suc n) m) (2 ^ suc n)) (suc n)) 3 t u (omega arith) in
    let of_j = below_at (λ m. below (is_clear (suc u) m) (2 ^ suc u)) (suc u) of_w j hj in
    let clear = below_at (is_clear (suc u) j) (2 ^ suc u) of_j v hv in
    record {
      own = eqb→eq _ 0 (both_left (free (suc u) j v) (dear (suc u) j v) clear);
      other = leb→le 4 _ (both_right (free (suc u) j v) (dear (suc u) j v) clear);
    }
