-- Bits packed in a number.
--   packed   n f: bit s is f s, for each s below n
--   written  f from n: the number that n bits from `from` on write, the first the highest
-- Assumes nothing.
use Rattle.std.specs.Prelude.{ℕ, zero, suc, ◌+◌, ◌*◌, ◌^◌}

-- f 0 + 2 f 1 + 4 f 2 + .. + 2 ^ (n - 1) f (n - 1)
unfoldable pub packed : ℕ → (ℕ → ℕ) → ℕ
packed zero f = 0
packed (suc n) f = packed n f + f n * 2 ^ n

-- 2 ^ (n - 1) f from + .. + 2 f (from + n - 2) + f (from + n - 1)
unfoldable pub written : (ℕ → ℕ) → ℕ → ℕ → ℕ
written f from zero = 0
written f from (suc n) = 2 * written f from n + f (from + n)
