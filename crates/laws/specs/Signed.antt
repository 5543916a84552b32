-- Signed numbers as numbers.
--   above    the greater of 0 and a signed number
--   counted  a signed number counted from -k; 0 for one below that
-- Assumes nothing.
use Rattle.std.specs.Prelude.{ℕ, ℤ, pos, negsuc, ◌+ℤ◌}

-- the greater of 0 and a signed number
unfoldable pub above : ℤ → ℕ
above (pos n) = n
above (negsuc n) = 0

-- a signed number counted from -k
unfoldable pub counted : ℕ → ℤ → ℕ
counted k z = above (z +ℤ pos k)
