-- Lists made by a function, and buffers that are filled from the front.
--   choose    the first of two values where a test holds, else the second
--   tabulate  n f: the list f 0, f 1, .., f (n - 1)
--   filled    n f l: the buffer l with its first n entries made by f, and the rest as it was
-- Assumes nothing.
use Rattle.std.specs.Prelude.{Bool, true, false, List, [], ◌∷◌, ◌++◌, ℕ, zero, suc, drop}

-- the first of two values where a test holds, else the second
abbrev pub choose {ℓ} : {A : Type ℓ} → Bool → A → A → A
choose true a b = a
choose false a b = b

-- the list f 0, f 1, .., f (n - 1)
unfoldable pub tabulate {ℓ} : {A : Type ℓ} → ℕ → (ℕ → A) → List A
tabulate zero f = []
tabulate (suc n) f = f zero ∷ tabulate n (λ k. f (suc k))

-- the buffer l with its first n entries made by f, and the rest as it was
unfoldable pub filled {ℓ} : {A : Type ℓ} → ℕ → (ℕ → A) → List A → List A
filled n f l = tabulate n f ++ drop n l
