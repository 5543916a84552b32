-- Laws of values stored one after the other: a turn of the loop that stores them, and a buffer that they fill further.
-- Assumes nothing.
use mathlib.Core.Path.{◌≡◌, refl}
use mathlib.Core.List.{List}
use Prim.Native.Nat.{ℕ, zero, suc, ◌+◌, ◌≤◌, ◌<◌}
use native.Mathlib.Nat.{add-zero, add-suc, add_assoc}
use native.Mathlib.Numerals.{add-one}
use native.Mathlib.Omega.{arith}
use lib.ListN.{length, set}
use Rattle.laws.specs.Lists.{filled}
use Rattle.laws.proofs.ListLaws.{filled_put}
use Rattle.soft.specs.Stored.{stored}

module _ {ℓ} {A : Type ℓ} where
  pub stored_none : (at : ℕ) (f : ℕ → A) (l : List A) → stored at 0 f l ≡ l
  unfolding stored
  stored_none at f l = refl

  -- one more
  pub stored_put : (at n : ℕ) (f : ℕ → A) (l₀ l : List A) (v : A) → l ≡ stored at n f l₀ → v ≡ f n → set l (at + n) v ≡ stored at (n + 1) f l₀
  unfolding stored
  stored_put at n f l₀ l v el ev = rw (add-one n, el, ev)

  -- behind what is filled, as the same function fills it
  pub stored_filled : (at n : ℕ) (f : ℕ → A) (l : List A) → at + n ≤ length l
      → stored at n (λ j. f (at + j)) (filled at f l) ≡ filled (at + n) f l
  unfolding stored
  stored_filled at zero f l h = rw add-zero
  stored_filled at (suc n) f l h =
      let e : at + suc n ≡ at + n + 1 = omega arith in
      rw e
      (filled_put (at + n) f l (stored at n (λ j. f (at + j)) (filled at f l)) (f (at + n))
      (stored_filled at n f l (omega arith)) refl (omega arith))

  -- what is stored is known by its values
  pub stored_same : (at n : ℕ) (f g : ℕ → A) (l : List A) → ((j : ℕ) → j < n → f j ≡ g j) → stored at n f l ≡ stored at n g l
  unfolding stored
  stored_same at zero f g l same = refl
  stored_same at (suc n) f g l same =
      rw (stored_same at n f g l (λ j h. same j (omega arith)), same n (omega arith))

  -- some, and those behind them
  pub stored_join : (at m n : ℕ) (f : ℕ → A) (l : List A) → stored (at + m) n (λ j. f (m + j)) (stored at m f l) ≡ stored at (m + n) f l
  unfolding stored
  stored_join at m zero f l = rw add-zero
  stored_join at m (suc n) f l = rw (add-suc, stored_join at m n f l, add_assoc)
