-- A rule proved everywhere by one test that is computed: at each entry of a table, or at each number below a bound.
-- Assumes nothing.
use mathlib.Core.Path.{◌≡◌, refl, subst, sym, ◌∙◌}
use mathlib.Core.Bool.{Bool, true, false}
use mathlib.Core.List.{List, [], ◌∷◌, cons≢nil}
use Prim.Native.Nat.{ℕ, zero, suc, ◌+◌, ◌<◌}
use native.Mathlib.Nat.{not-suc-le-zero, le_of_suc-le-suc, zero-add, add-zero, suc-add, add-suc}
use native.Mathlib.Omega.{arith}
use lib.Dec.{T, ltb, eqb}
use lib.ListN.{length, get_or}
use lib.Seq.{ext_get_or}
use borrow.Author.Tests.{eqb-true, ltb-true, ltb-false}
use Rattle.laws.specs.Lists.{tabulate}
use Rattle.laws.proofs.ListLaws.{tabulate_length, tabulate_at}

-- both of two tests
abbrev pub both : Bool → Bool → Bool
both true b = b
both false b = false

pub both_left : (a b : Bool) → T (both a b) → T a
both_left true b t = tt
both_left false b t = t

pub both_of : (a b : Bool) → T a → T b → T (both a b)
both_of true b ta tb = tb
both_of false b ta tb = ta

pub both_right : (a b : Bool) → T (both a b) → T b
both_right true b t = t
both_right false b t = absurd t

-- f holds at every number below n
abbrev pub below : (ℕ → Bool) → ℕ → Bool
below f zero = true
below f (suc n) = both (f n) (below f n)

-- what is tested at every number below n holds at each
pub below_at : (f : ℕ → Bool) (n : ℕ) → T (below f n) → (k : ℕ) → k < n → T (f k)
below_at f zero t k h = absurd (not-suc-le-zero h)
below_at f (suc n) t k h = go (below_at f n (both_right (f n) (below f n) t) k) (ltb k n) refl
  where
    go : (k < n → T (f k)) → (b : Bool) → ltb k n ≡ b → T (f k)
    go lower true e = lower (ltb-true k n e)
    go lower false e =
        let same : k ≡ n = omega (arith, ltb-false k n e) in
        subst (λ (m : ℕ). T (f m)) (sym same) (both_left (f n) (below f n) t)

-- a number that stands before a list where a test fails
abbrev unless : Bool → ℕ → List ℕ → List ℕ
unless true n l = l
unless false n l = n ∷ l

-- the entries of a table, counted from n, that do not follow a rule
abbrev pub strays : (ℕ → ℕ) → ℕ → List ℕ → List ℕ
strays rule n [] = []
strays rule n (x ∷ l) = unless (eqb x (rule n)) n (strays rule (suc n) l)

-- where there is none, entry j has the rule's value at n + j
counted_on : (rule : ℕ → ℕ) (n : ℕ) (l : List ℕ) → strays rule n l ≡ [] → (j : ℕ) → j < length l → get_or l j 0 ≡ rule (n + j)
counted_on rule n [] e j h = absurd (not-suc-le-zero h)
counted_on rule n (x ∷ l) e j h = go (eqb x (rule n)) refl e (counted_on rule (suc n) l) j h
  where
    go : (t : Bool) → eqb x (rule n) ≡ t → unless t n (strays rule (suc n) l) ≡ []
        → (strays rule (suc n) l ≡ [] → (j : ℕ) → j < length l → get_or l j 0 ≡ rule (suc n + j))
        → (j : ℕ) → j < suc (length l) → get_or (x ∷ l) j 0 ≡ rule (n + j)
    go true t e rest zero h = rw (add-zero n) (eqb-true x (rule n) t)
    go true t e rest (suc j) h = rw (add-suc n j, ← suc-add n j) (rest e j (le_of_suc-le-suc h))
    go false t e rest j h = absurd (cons≢nil e)

-- a table without such an entry follows the rule
pub table_rule : (rule : ℕ → ℕ) (table : List ℕ) → strays rule 0 table ≡ [] → (k : ℕ) → k < length table → get_or table k 0 ≡ rule k
table_rule rule table none k h = rw (zero-add k) at (counted_on rule 0 table none k h)

-- and is the list of its values
pub tabled : (rule : ℕ → ℕ) (table : List ℕ) → strays rule 0 table ≡ [] → table ≡ tabulate (length table) rule
tabled rule table none =
    ext_get_or 0 table (tabulate (length table) rule) (sym (tabulate_length (length table) rule))
    (λ k h. table_rule rule table none k h ∙ sym (tabulate_at (length table) rule k 0 h))
