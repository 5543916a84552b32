-- The encoder as a register of seven bits, the newest the highest.
--   entered         the register when one more input has come
--   register        the register when t inputs have come
--   mask_x, mask_y  the polynomials, octal 133 and 171
--   parity          whether the count of ones under a mask is odd
-- Assumes nothing.
use Rattle.std.specs.Prelude.{ℕ, zero, suc, ◌+◌, ◌*◌, ◌/◌, ◌%◌, List, get_or}
use Rattle.std.specs.Int.Bits.{bit_and}
use Rattle.std.specs.Int.Count.{ones}

-- the register when one more input has come
abbrev pub entered : ℕ → ℕ → ℕ
entered r bit = r / 2 + 64 * bit

-- the register when t inputs have come
unfoldable pub register : List ℕ → ℕ → ℕ
register w zero = 0
register w (suc t) = entered (register w t) (get_or w t 0)

-- octal 133
abbrev pub mask_x : ℕ
mask_x = 0o133

-- octal 171
abbrev pub mask_y : ℕ
mask_y = 0o171

-- whether the count of ones under a mask is odd
abbrev pub parity : ℕ → ℕ → ℕ
parity r mask = ones (bit_and r mask) % 2
