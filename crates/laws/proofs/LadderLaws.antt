-- Laws of a ladder of refusals: where it stops, where it goes on, and what "not refused" gives.
-- Assumes nothing.
use mathlib.Core.Path.{◌≡◌, refl, sym, ◌∙◌}
use mathlib.Core.Bool.{Bool, true, false, not}
use mathlib.Core.List.{List, [], ◌∷◌, ◌++◌}
use Prim.Native.Nat.{ℕ, suc}
use native.Mathlib.Omega.{arith}
use lib.Dec.{T, ltb, eqb, ltb→lt}
use borrow.Author.Tests.{eqb-true, eqb-false, eq-eqb, ne_eqb}
use Rattle.laws.specs.Ladder.{Rung, ◌when◌, ladder, given}
use Rattle.laws.proofs.Tables.{both, both_left, both_of, both_right}

-- every rung's number is above 0
abbrev pub numbered : List Rung → Bool
numbered [] = true
numbered ((k when t) ∷ rest) = both (ltb 0 k) (numbered rest)

-- a refusal is the answer, whatever rungs follow
pub ladder_stops : (xs ys : List Rung) → (ladder xs ≡ 0 → ⊥) → ladder (xs ++ ys) ≡ ladder xs
unfolding ladder
ladder_stops [] ys h = absurd (h refl)
ladder_stops ((k when true) ∷ xs) ys h = refl
ladder_stops ((k when false) ∷ xs) ys h = ladder_stops xs ys h

-- where none refuses, the rungs that follow decide
pub ladder_goes_on : (xs ys : List Rung) → T (numbered xs) → ladder xs ≡ 0 → ladder (xs ++ ys) ≡ ladder ys
unfolding ladder
ladder_goes_on [] ys t h = refl
ladder_goes_on ((k when true) ∷ xs) ys t h = absurd (omega (arith, ltb→lt 0 k (both_left (ltb 0 k) (numbered xs) t)))
ladder_goes_on ((k when false) ∷ xs) ys t h = ladder_goes_on xs ys (both_right (ltb 0 k) (numbered xs) t) h

-- not refused by all is not refused by the first of them
pub ladder_front : (xs ys : List Rung) → T (numbered xs) → ladder (xs ++ ys) ≡ 0 → ladder xs ≡ 0
unfolding ladder
ladder_front [] ys t h = refl
ladder_front ((k when true) ∷ xs) ys t h = h
ladder_front ((k when false) ∷ xs) ys t h = ladder_front xs ys (both_right (ltb 0 k) (numbered xs) t) h

-- not refused: the first test fails, and the rest does not refuse either
pub ladder_passed : (k : ℕ) (t : Bool) (rest : List Rung) → ladder ((suc k when t) ∷ rest) ≡ 0 → (t ≡ false) × (ladder rest ≡ 0)
unfolding ladder
ladder_passed k true rest h = absurd (omega arith)
ladder_passed k false rest h = (refl, h)

-- a last test that fails changes nothing
pub ladder_idle : (xs : List Rung) (k : ℕ) → ladder (xs ++ (k when false) ∷ []) ≡ ladder xs
unfolding ladder
ladder_idle [] k = refl
ladder_idle ((j when true) ∷ xs) k = refl
ladder_idle ((j when false) ∷ xs) k = ladder_idle xs k

-- a refusal that was found before is the answer
pub given_stops : (k : ℕ) (rest : List Rung) → (k ≡ 0 → ⊥) → ladder (given k ∷ rest) ≡ k
unfolding ladder
given_stops k rest h = simp (ne_eqb k 0 h)

-- and where there was none, what follows decides
pub given_goes_on : (k : ℕ) (rest : List Rung) → k ≡ 0 → ladder (given k ∷ rest) ≡ ladder rest
unfolding ladder
given_goes_on k rest h = simp (eq-eqb k 0 h)

pub given_passed : (k : ℕ) (rest : List Rung) → ladder (given k ∷ rest) ≡ 0 → (k ≡ 0) × (ladder rest ≡ 0)
unfolding ladder
given_passed k rest h = go (eqb k 0) refl h
  where
    go : (t : Bool) → eqb k 0 ≡ t → ladder ((k when not t) ∷ rest) ≡ 0 → (k ≡ 0) × (ladder rest ≡ 0)
    go true t h = (eqb-true k 0 t, h)
    go false t h = (h, absurd (eqb-false k 0 t h))

-- a ladder's first part as one rung
pub ladder_part : (xs ys : List Rung) → T (numbered xs) → ladder (xs ++ ys) ≡ ladder (given (ladder xs) ∷ ys)
ladder_part xs ys t = go (eqb (ladder xs) 0) refl
  where
    go : (b : Bool) → eqb (ladder xs) 0 ≡ b → ladder (xs ++ ys) ≡ ladder (given (ladder xs) ∷ ys)
    go true e = ladder_goes_on xs ys t (eqb-true _ 0 e) ∙ sym (given_goes_on _ ys (eqb-true _ 0 e))
    go false e = ladder_stops xs ys (eqb-false _ 0 e) ∙ sym (given_stops _ ys (eqb-false _ 0 e))

-- numbered rungs in a row
pub numbered_both : (xs ys : List Rung) → T (numbered xs) → T (numbered ys) → T (numbered (xs ++ ys))
numbered_both [] ys tx ty = ty
numbered_both ((k when t) ∷ xs) ys tx ty =
    both_of (ltb 0 k) (numbered (xs ++ ys)) (both_left (ltb 0 k) (numbered xs) tx) (numbered_both xs ys (both_right (ltb 0 k) (numbered xs) tx) ty)

-- what stands under a rung counts by its own ladder
pub ladder_under : (r : Rung) (xs ys : List Rung) → ladder xs ≡ ladder ys → ladder (r ∷ xs) ≡ ladder (r ∷ ys)
unfolding ladder
ladder_under (k when true) xs ys e = refl
ladder_under (k when false) xs ys e = e
