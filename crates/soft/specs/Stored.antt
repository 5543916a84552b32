-- Values stored one after the other in a buffer.
--   stored  at n f l: the buffer l with f 0, f 1, .., f (n - 1) from `at` on
-- Assumes nothing.
use Rattle.std.specs.Prelude.{ℕ, zero, suc, ◌+◌, List, set}

-- the buffer l with f 0, f 1, .., f (n - 1) from `at` on
unfoldable pub stored {ℓ} : {A : Type ℓ} → ℕ → ℕ → (ℕ → A) → List A → List A
stored at zero f l = l
stored at (suc n) f l = set (stored at n f l) (at + n) (f n)
