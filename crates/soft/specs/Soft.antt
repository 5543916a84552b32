-- Soft bytes and the cost of a bit, in document 01's order: one axis of w bits, the earliest the highest, and its bit j.
--   held       a reading held to -2,048 to 2,048
--   squared    the squared distance of two readings
--   distances  to 256 x each level whose bit j is b
--   least      the least of some numbers
--   least_to   the least squared distance to 256 x a level whose bit j is b
--   s_of       the least for bit 0 minus the least for bit 1, over 1024
--   rounded    S over 64, to the nearest, halves away from zero
--   soft_byte  the soft byte of a reading
--   bit_cost   the greater of 0 and S if the bit is 0, of 0 and -S if it is 1; the same of a soft byte
-- Assumes nothing.
use Rattle.std.specs.Prelude.{ℕ, suc, ◌+◌, ◌-◌, ◌/◌, ◌%◌, ◌^◌, min, List, [], ◌∷◌, eqb, ℤ, pos, negsuc, neg_ℤ, nat_abs, ◌-ℤ◌}
use Rattle.std.specs.Int.Signed.{lt_z, quot_z}
use Rattle.laws.specs.Lists.{choose}
use Rattle.laws.specs.Signed.{above}
use Rattle.points.specs.Levels.{Entry, ◌gives◌, minus, table}
use Rattle.points.specs.Points.{reading}

-- a reading held to -2,048 to 2,048
unfoldable pub held : ℤ → ℤ
held r = choose (lt_z r (minus 2048)) (minus 2048) (choose (lt_z (pos 2048) r) (pos 2048) r)

-- the squared distance of two readings
unfoldable pub squared : ℤ → ℤ → ℕ
squared r s = nat_abs (r -ℤ s) ^ 2

-- bit j of w bits
unfoldable pub bit_at : ℕ → ℕ → ℕ → ℕ
bit_at w j v = v / 2 ^ (w - 1 - j) % 2

-- the squared distances to 256 x each level of a table whose bit j is b
unfoldable pub distances : List Entry → (w j b : ℕ) → ℤ → List ℕ
distances [] w j b r = []
distances ((v gives l) ∷ es) w j b r =
    choose (eqb (bit_at w j v) b) (squared r (reading l) ∷ distances es w j b r) (distances es w j b r)

-- the least of some numbers
unfoldable pub least : List ℕ → ℕ
least [] = 0
least (x ∷ []) = x
least (x ∷ y ∷ l) = min x (least (y ∷ l))

-- the least squared distance to 256 x a level whose bit j is b
unfoldable pub least_to : (w j b : ℕ) → ℤ → ℕ
least_to w j b r = least (distances (table w) w j b r)

-- the least for bit 0 minus the least for bit 1, over 1024: a whole number (`whole` of ClosedLaws)
unfoldable pub s_of : (w j : ℕ) → ℤ → ℤ
s_of w j r = quot_z (pos (least_to w j 0 (held r)) -ℤ pos (least_to w j 1 (held r))) (pos 1024)

-- S over 64, to the nearest, halves away from zero
unfoldable pub rounded : ℤ → ℤ
rounded (pos n) = pos ((n + 32) / 64)
rounded (negsuc n) = minus ((suc n + 32) / 64)

-- the soft byte of a reading
unfoldable pub soft_byte : (w j : ℕ) → ℤ → ℤ
soft_byte w j r = rounded (s_of w j r)

-- the greater of 0 and S if the bit is 0, of 0 and -S if it is 1; the rounded cost puts the soft byte for S
unfoldable pub bit_cost : ℤ → ℕ → ℕ
bit_cost s b = choose (eqb b 0) (above s) (above (neg_ℤ s))
