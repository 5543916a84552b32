-- Path costs as they are stored: numbers of sixteen bits that wrap round, compared by their wrapped difference.
--   width, half      of the stored numbers
--   start            the cost at which a state other than 0 is started in
--   wrapped          a number as it is stored
--   Near             two numbers as they are stored, less than half the width apart
--   Beside           some number near the total is stored so
--   gap              how far y lies above x, wrapped: below the half where it does, from the half on where y lies below
--   lesser           x, or what lies a gap above it where that is less
--   top              1 where a gap says less, else 0
--   paired           what a step costs by its register, from the costs of X and Y being 0 and 1
--   way              the stored cost of the way into state s with oldest bit d
--   gap_at, cost_at  the gap between the two ways into a state, and the lesser of them
--   above            whether a gap puts the way with the other oldest bit strictly above the way with this one
--   Crossed          the ways from an even and an odd state into a low and a high one
--   Entered          the states j and j + 32 after a step: their costs and gaps
--   Small            the bound on the costs of a coded bit
--   mask_at, Masks   all ones where a register's count of ones under the taps is odd, and those of the 32 registers 2 j
--   Stored           64 numbers, by state
-- Assumes nothing.
use Rattle.std.specs.Prelude.{◌≡◌, ℕ, ◌+◌, ◌-◌, ◌*◌, ◌%◌, ◌<◌, ◌≤◌, Bool, false, List, length, ◌==◌, nat_le, nat_lt, slice_index}
use Rattle.laws.specs.Lists.{choose}
use Rattle.coder.specs.Register.{parity, mask_x, mask_y}
use Rattle.trellis.specs.Passes.{via, before}

-- stored numbers are below this
abbrev pub width : ℕ
width = 65536

-- a gap from here on says less
abbrev pub half : ℕ
half = 32768

-- a state other than 0 is started in at this cost
abbrev pub start : ℕ
start = 4096

-- a number as it is stored
abbrev pub wrapped : ℕ → ℕ
wrapped x = x % width

-- a and b as they are stored, less than half the width apart
pub record Near (a b x y : ℕ) : Type 0 where
  pub stored_a : x ≡ wrapped a
  pub stored_b : y ≡ wrapped b
  pub not_below : a < b + half
  pub not_above : b < a + half

-- some number near the total is stored so
pub record Beside (total stored : ℕ) : Type 0 where
  pub number : ℕ
  pub near : Near total number (wrapped total) stored

-- how far y lies above x, wrapped
unfoldable pub gap : ℕ → ℕ → ℕ
gap x y = wrapped (y + (width - x))

-- 1 where a gap says less, else 0
unfoldable pub top : ℕ → ℕ
top g = choose (nat_lt g half) 0 1

-- x, or what lies a gap above it where that is less
unfoldable pub lesser : ℕ → ℕ → ℕ
lesser x g = choose (nat_lt g half) x (wrapped (x + g))

-- what a step costs if its register is r
unfoldable pub paired : ℕ → ℕ → ℕ → ℕ → ℕ → ℕ
paired x0 x1 y0 y1 r = choose (parity r mask_x == 0) x0 x1 + choose (parity r mask_y == 0) y0 y1

-- the stored cost of the way into state s with oldest bit d
unfoldable pub way : List ℕ → (ℕ → ℕ) → ℕ → ℕ → ℕ
way old b s d = wrapped (slice_index old (before s d) + b (via s d))

-- the gap between the two ways into state s
unfoldable pub gap_at : List ℕ → (ℕ → ℕ) → ℕ → ℕ
gap_at old b s = gap (way old b s 0) (way old b s 1)

-- the lesser of the two
unfoldable pub cost_at : List ℕ → (ℕ → ℕ) → ℕ → ℕ
cost_at old b s = lesser (way old b s 0) (gap_at old b s)

-- whether a gap puts the way with the other oldest bit strictly above the way with this one
unfoldable pub above : ℕ → ℕ → Bool
above g oldest = choose (oldest == 0) (choose (nat_lt 0 g) (nat_lt g half) false) (nat_le half g)

-- the ways from an even and an odd state into a low and a high one
pub record Crossed (even odd a b low low_gap high high_gap : ℕ) : Type 0 where
  pub low_by : low_gap ≡ gap (wrapped (even + a)) (wrapped (odd + b))
  pub low_is : low ≡ lesser (wrapped (even + a)) low_gap
  pub high_by : high_gap ≡ gap (wrapped (even + b)) (wrapped (odd + a))
  pub high_is : high ≡ lesser (wrapped (even + b)) high_gap

-- the states j and j + 32 after a step from old costs
pub record Entered (old : List ℕ) (b : ℕ → ℕ) (j low low_gap high high_gap : ℕ) : Type 0 where
  pub low_is : low ≡ cost_at old b j
  pub low_by : low_gap ≡ gap_at old b j
  pub high_is : high ≡ cost_at old b (j + 32)
  pub high_by : high_gap ≡ gap_at old b (j + 32)

-- no coded bit costs more than 255 in either pass
pub record Small (x0 x1 y0 y1 : ℕ) : Type 0 where
  pub small_x0 : x0 ≤ 255
  pub small_x1 : x1 ≤ 255
  pub small_y0 : y0 ≤ 255
  pub small_y1 : y1 ≤ 255

-- all ones where a register's count of ones under the taps is odd
unfoldable pub mask_at : ℕ → ℕ → ℕ
mask_at taps r = choose (parity r taps == 0) 0 (width - 1)

-- the masks of the registers 2 j
pub record Masks (taps : ℕ) (l : List ℕ) : Type 0 where
  pub count : length l ≡ 32
  pub mask : (j : ℕ) → j < 32 → slice_index l j ≡ mask_at taps (2 * j)

-- a list of 64 numbers, by state
pub record Stored (f : ℕ → ℕ) (l : List ℕ) : Type 0 where
  pub all : length l ≡ 64
  pub at : (s : ℕ) → s < 64 → slice_index l s ≡ f s
