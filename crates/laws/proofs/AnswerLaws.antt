-- Laws of what a call leaves behind: how it is shown, and that it is fixed.
-- Assumes nothing.
use mathlib.Core.Path.{◌≡◌, refl, sym, ◌∙◌}
use mathlib.Core.Bool.{Bool, true, false}
use Prim.Native.Nat.{ℕ}
use lib.Dec.{eqb}
use borrow.Author.Tests.{eqb-true, eqb-false}
use Rattle.laws.specs.Answers.{Leaves, Answers}

-- of two tests that each say whether something holds, each is the other
pub same_test : (x y : Bool) (A : Type 0) → (x ≡ true → A) → (A → x ≡ true) → (y ≡ true → A) → (A → y ≡ true) → x ≡ y
same_test true y A to from to' from' = sym (from' (to refl))
same_test false true A to from to' from' = from (to' refl)
same_test false false A to from to' from' = refl

module _ {B : Type 0} (number : ℕ) (Wanted : B → Type 0) (before : B) where
  pub refused_with : (r : ℕ) → r ≡ number → (r ≡ 0 → ⊥) → Leaves number Wanted before r before
  refused_with r e h = record { answer = e; done = λ z. absurd (h z); refused = λ _. refl }

  pub done_with : (left : B) → number ≡ 0 → Wanted left → Leaves number Wanted before 0 left
  done_with left e is = record { answer = sym e; done = λ _. is; refused = λ h. absurd (h refl) }

  -- where what is wanted of a call that is done is one thing, two answers that are allowed, and what they leave, are the same
  pub fixed : (number ≡ 0 → (x y : B) → Wanted x → Wanted y → x ≡ y)
      → (r r' : ℕ) (left left' : B) → Leaves number Wanted before r left → Leaves number Wanted before r' left' → (r ≡ r') × (left ≡ left')
  fixed one r r' left left' p q = (same, go (eqb r 0) refl)
    where
      same : r ≡ r'
      same = p.answer ∙ sym q.answer

      go : (t : Bool) → eqb r 0 ≡ t → left ≡ left'
      go true e = one (sym p.answer ∙ eqb-true r 0 e) left left' (p.done (eqb-true r 0 e)) (q.done (sym same ∙ eqb-true r 0 e))
      go false e = p.refused (eqb-false r 0 e) ∙ sym (q.refused (λ z. eqb-false r 0 e (same ∙ z)))

pub determined : {B : Type 0} (number : ℕ) (after before : B) (r r' : ℕ) (left left' : B)
    → Answers number after before r left → Answers number after before r' left' → (r ≡ r') × (left ≡ left')
determined number after before = fixed number (λ l. l ≡ after) before (λ _ x y p q. p ∙ sym q)
