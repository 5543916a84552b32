-- What a call that may refuse leaves behind.
--   Leaves   its answer is a given number; where that is 0, what it leaves is as wanted, and where it is a refusal, as it was before
--   Answers  the same where what is wanted is one thing
-- Assumes nothing.
use Rattle.std.specs.Prelude.{◌≡◌, ℕ}

-- r is the number; what is left is as wanted where the call is done, and `before` where it is refused
pub record Leaves {B : Type 0} (number : ℕ) (Wanted : B → Type 0) (before : B) (r : ℕ) (left : B) : Type 0 where
  pub answer : r ≡ number
  pub done : r ≡ 0 → Wanted left
  pub refused : (r ≡ 0 → ⊥) → left ≡ before

-- what is left is `after` where the call is done
abbrev pub Answers : {B : Type 0} (number : ℕ) (after before : B) (r : ℕ) (left : B) → Type 0
Answers number after before r left = Leaves number (λ l. l ≡ after) before r left
