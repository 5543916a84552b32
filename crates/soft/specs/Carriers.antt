-- The soft bytes of readings, one for each sent bit: the bits of a carrier for I first, and then those for Q.
--   exact_of  S of bit j of carrier k
--   exact_at  S of sent bit p
--   soft_at   the soft byte of sent bit p
--   is_soft   whether a soft byte lies in -80 to 80
--   all_soft  whether every soft byte does
--   Readings  so many carriers were read on both axes, and there is room for their soft bytes
-- Assumes nothing.
use Rattle.std.specs.Prelude.{ℕ, ◌-◌, ◌*◌, ◌/◌, ◌%◌, ◌≤◌, Bool, true, not, ◌&&◌, ◌||◌, List, [], ◌∷◌, ltb, ℤ, pos, length, get_or}
use Rattle.std.specs.Int.Signed.{lt_z}
use Rattle.laws.specs.Lists.{choose}
use Rattle.modes.specs.declared.Constellation.{Constellation}
use Rattle.modes.specs.Modes.{bits_of}
use Rattle.points.specs.Levels.{minus, width_i, width_q}
use Rattle.soft.specs.Soft.{s_of, rounded}

-- S of bit j of carrier k, for a carrier's bits 0 to b - 1
unfoldable pub exact_of : Constellation → (i q : List ℤ) → (k j : ℕ) → ℤ
exact_of c i q k j =
    choose (ltb j (width_i c)) (s_of (width_i c) j (get_or i k (pos 0))) (s_of (width_q c) (j - width_i c) (get_or q k (pos 0)))

-- S of sent bit p
unfoldable pub exact_at : Constellation → (i q : List ℤ) → ℕ → ℤ
exact_at c i q p = exact_of c i q (p / bits_of c) (p % bits_of c)

-- the soft byte of sent bit p
unfoldable pub soft_at : Constellation → (i q : List ℤ) → ℕ → ℤ
soft_at c i q p = rounded (exact_at c i q p)

-- whether a soft byte lies in -80 to 80
unfoldable pub is_soft : ℤ → Bool
is_soft x = not (lt_z x (minus 80) || lt_z (pos 80) x)

-- whether every soft byte does
unfoldable pub all_soft : List ℤ → Bool
all_soft [] = true
all_soft (x ∷ xs) = is_soft x && all_soft xs

-- so many carriers were read on both axes, and there is room for their soft bytes
pub record Readings (c : Constellation) (carriers : ℕ) (i q soft : List ℤ) : Type 0 where
  pub on_i : carriers ≤ length i
  pub on_q : carriers ≤ length q
  pub room : bits_of c * carriers ≤ length soft
