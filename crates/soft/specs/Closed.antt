-- S in closed form, by numbers: a held reading is counted from -2,048.
--   strength   the size of S of the first of v bits, at the distance m from zero
--   folded     the reading of v - 1 bits whose first bit is the second of the v bits
--   folded_to  the reading after j folds: its first bit is bit j of the w bits
--   up, down   S of the first of v bits is up - down, and one of them is 0
--   near       a number over 64, to the nearest, halves up
--   byte_from  the soft byte of the first of v bits, counted from -128
--   soft_from  the soft byte of bit j of w bits
-- Assumes nothing.
use Rattle.std.specs.Prelude.{ℕ, zero, suc, ◌+◌, ◌-◌, ◌*◌, ◌/◌, ◌^◌, ℤ, pos, ◌-ℤ◌}
use Rattle.laws.specs.Sums.{total}

-- what the distance is past each border, these being 0, 512, .., one for each level above zero
unfoldable pub strength : (v m : ℕ) → ℕ
strength v m = total (2 ^ (v - 1)) (λ k. m - 512 * k)

-- the reading turned over at zero and raised, so that the middle of the half is at zero
unfoldable pub folded : (v p : ℕ) → ℕ
folded v p = 2048 + 128 * 2 ^ v - ((p - 2048) + (2048 - p))

-- the reading after j folds
unfoldable pub folded_to : (w j p : ℕ) → ℕ
folded_to w zero p = p
folded_to w (suc j) p = folded (w - j) (folded_to w j p)

-- S where it is above zero, else 0
unfoldable pub up : (v p : ℕ) → ℕ
up v p = strength v (p - 2048)

-- -S where it is above zero, else 0
unfoldable pub down : (v p : ℕ) → ℕ
down v p = strength v (2048 - p)

-- a number over 64, to the nearest, halves up
abbrev pub near : ℕ → ℕ
near n = (n + 32) / 64

-- the soft byte of the first of v bits, counted from -128
unfoldable pub byte_from : (v p : ℕ) → ℕ
byte_from v p = 128 + near (up v p) - near (down v p)

-- the soft byte of bit j of w bits
unfoldable pub soft_from : (w p j : ℕ) → ℤ
soft_from w p j = pos (byte_from (w - j) (folded_to w j p)) -ℤ pos 128
