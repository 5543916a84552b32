-- The tests of every call: what its description is refused for, then 7, 8 and 9 or the number in its place for what it is lent. Which answer each gives, and what a call
-- that is done says of them.
-- Assumes nothing.
use mathlib.Core.Path.{◌≡◌, refl, sym, ◌∙◌}
use mathlib.Core.Bool.{Bool, true, false, true≢false, not, ◌||◌}
use mathlib.Core.List.{◌∷◌}
use Prim.Native.Nat.{ℕ, suc, ◌≤◌}
use lib.Dec.{eqb, ltb}
use borrow.Author.Tests.{eqb-true, ltb-false, not-false}
use Rattle.std.specs.Prelude.{Option}
use Rattle.std.specs.Bool.{then_some}
use Rattle.laws.specs.Ladder.{given, ladder}
use Rattle.laws.specs.Answers.{Leaves}
use Rattle.laws.proofs.AnswerLaws.{refused_with, done_with}
use Rattle.laws.proofs.LadderLaws.{ladder_passed, given_stops, given_goes_on, given_passed}
use Rattle.modes.specs.declared.refusal.Refusal.{Refusal}
use Rattle.modes.specs.Refusal.{refusal_number}
use Rattle.modem.specs.Lent.{lent, lent_by}

-- neither of two tests holds
pub neither : (x y : Bool) → (x || y) ≡ false → (x ≡ false) × (y ≡ false)
neither true y e = absurd (true≢false e)
neither false y e = (refl, e)

-- two counts that are right
pub right_counts : (i q carriers : ℕ) → (not (eqb i carriers) || not (eqb q carriers)) ≡ false → (i ≡ carriers) × (q ≡ carriers)
right_counts i q carriers e =
    let (a, b) = neither _ _ e in
    (eqb-true i carriers (not-false _ a), eqb-true q carriers (not-false _ b))

-- two lengths that suffice
pub enough_room : (x y m n : ℕ) → (ltb x m || ltb y n) ≡ false → (m ≤ x) × (n ≤ y)
enough_room x y m n e =
    let (a, b) = neither _ _ e in
    (ltb-false x m a, ltb-false y n b)

-- a refusal that is there only where the value is not allowed is the last test
value_last : (refusal : Refusal) (wrong short outside : Bool)
    → ladder (lent_by wrong short (then_some outside refusal)) ≡ ladder (lent (refusal_number refusal) wrong short outside)
unfolding ladder
value_last refusal wrong short true = refl
value_last refusal true short false = refl
value_last refusal false true false = refl
value_last refusal false false false = refl

-- so the test of a value is its refusal, where it is not allowed
pub value_tested : (refusal : Refusal) (wrong short outside : Bool) (value : Option Refusal) (r : ℕ) → value ≡ then_some outside refusal
    → r ≡ ladder (lent_by wrong short value) → r ≡ ladder (lent (refusal_number refusal) wrong short outside)
value_tested refusal wrong short outside value r is e = (rw is at e) ∙ value_last refusal wrong short outside

-- lent slices that pass
pub lent_passed : (k : ℕ) (wrong short outside : Bool) → ladder (lent (suc k) wrong short outside) ≡ 0 → (wrong ≡ false) × (short ≡ false) × (outside ≡ false)
lent_passed k wrong short outside h =
    let p7 = ladder_passed 6 _ _ h in
    let p8 = ladder_passed 7 _ _ p7.1 in
    (p7.0, p8.0, (ladder_passed k _ _ p8.1).0)

-- lent slices that no test refuses pass
pub lent_passes : (last : ℕ) (wrong short outside : Bool) → wrong ≡ false → short ≡ false → outside ≡ false → ladder (lent last wrong short outside) ≡ 0
unfolding ladder
lent_passes last wrong short outside w s o = rw (w, s, o)

module _ {B : Type 0} (described last : ℕ) (wrong short outside : Bool) (Wanted : B → Type 0) (before : B) where
  abbrev number : ℕ
  number = ladder (given described ∷ lent last wrong short outside)

  -- the description is refused
  pub described_refused : (r : ℕ) → r ≡ described → (r ≡ 0 → ⊥) → Leaves number Wanted before r before
  described_refused r e h = refused_with number Wanted before r (e ∙ sym (given_stops described _ (λ z. h (e ∙ z)))) h

  -- what is lent is refused
  pub lent_refused : described ≡ 0 → (r : ℕ) → r ≡ ladder (lent last wrong short outside) → (r ≡ 0 → ⊥) → Leaves number Wanted before r before
  lent_refused passes r e h = refused_with number Wanted before r (e ∙ sym (given_goes_on described _ passes)) h

  -- nothing is refused
  pub all_done : described ≡ 0 → ladder (lent last wrong short outside) ≡ 0 → (left : B) → Wanted left → Leaves number Wanted before 0 left
  all_done passes rest left is = done_with number Wanted before left (given_goes_on described _ passes ∙ rest) is

  -- what a call that is done says
  pub done_passed : (left : B) → Leaves number Wanted before 0 left → (described ≡ 0) × (ladder (lent last wrong short outside) ≡ 0)
  done_passed left h = given_passed described _ (sym h.answer)
