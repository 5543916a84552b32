-- Ways into a state, as lists of the oldest bits (those that left the register), the last step's first: the survivor is of all ways
-- of least cost the one with 0 at the first place where it differs from another. Assumes nothing.
use mathlib.Core.Path.{◌≡◌, refl, sym, ap}
use mathlib.Core.Logic.{◌⊎◌, inl, inr, ⊎_map}
use mathlib.Core.Bool.{Bool, true, false}
use mathlib.Core.List.{List, [], ◌∷◌}
use Prim.Native.Nat.{ℕ, zero, suc, ◌+◌, ◌≤◌, ◌<◌}
use native.Mathlib.Omega.{arith}
use lib.Dec.{eqb}
use lib.ListN.{length, get_or}
use borrow.Author.Tests.{eqb-true, eqb-false, ne_eqb}
use Rattle.laws.specs.Lists.{choose}
use Rattle.coder.proofs.EncoderLaws.{Bits}
use Rattle.trellis.specs.Passes.{via, before, candidate, best, choice, survivor}
use Rattle.trellis.proofs.StepLaws.{choice_bit, choice_tie, best_choice, best_step}

-- what the way into state s with the oldest bits ds costs
unfoldable pub along : (ℕ → ℕ → ℕ) → ℕ → ℕ → List ℕ → ℕ
along b P s [] = choose (eqb s 0) 0 P
along b P s (d ∷ ds) = along b P (before s d) ds + b (length ds) (via s d)

-- where it started
unfoldable pub origin : ℕ → List ℕ → ℕ
origin s [] = s
origin s (d ∷ ds) = origin (before s d) ds

-- ds has 0 at the first place where the two differ
pub record First (ds es : List ℕ) : Type 0 where
  pub place : ℕ
  pub has_0 : get_or ds place 0 ≡ 0
  pub has_1 : get_or es place 0 ≡ 1
  pub alike : (i : ℕ) → i < place → get_or ds i 0 ≡ get_or es i 0

first_here : {c d : ℕ} (ds es : List ℕ) → c ≡ 0 → d ≡ 1 → First (c ∷ ds) (d ∷ es)
first_here ds es c0 d1 = record { place = 0; has_0 = c0; has_1 = d1; alike = λ i h. absurd (omega arith) }

first_later : {ds es : List ℕ} (d : ℕ) → First ds es → First (d ∷ ds) (d ∷ es)
first_later {ds} {es} d f = record { place = suc f.place; has_0 = f.has_0; has_1 = f.has_1; alike = before_it }
  where
    before_it : (i : ℕ) → i < suc f.place → get_or (d ∷ ds) i 0 ≡ get_or (d ∷ es) i 0
    before_it zero h = refl
    before_it (suc i) h = f.alike i (omega arith)

module _ (b : ℕ → ℕ → ℕ) (P : ℕ) where
  along_start : (s : ℕ) → along b P s [] ≡ best b P 0 s
  unfolding along best
  along_start s = refl

  -- no way costs less than the best
  pub best_least : (s : ℕ) (ds : List ℕ) → Bits ds → best b P (length ds) s ≤ along b P s ds
  unfolding along
  best_least s [] bits = omega (arith, along_start s)
  best_least s (d ∷ ds) bits =
      omega (arith, best_step b P (length ds) s d (bits 0), best_least (before s d) ds (λ t. bits (suc t)))

  pub survivor_length : (t s : ℕ) → length (survivor b P t s) ≡ t
  unfolding survivor
  survivor_length zero s = refl
  survivor_length (suc t) s = ap suc (survivor_length t (before s (choice b P t s)))

  pub survivor_bits : (t s : ℕ) → Bits (survivor b P t s)
  unfolding survivor
  survivor_bits zero s i = omega arith
  survivor_bits (suc t) s zero = choice_bit b P t s
  survivor_bits (suc t) s (suc i) = survivor_bits t (before s (choice b P t s)) i

  -- and the survivor costs just that
  pub survivor_cost : (t s : ℕ) → along b P s (survivor b P t s) ≡ best b P t s
  unfolding survivor along
  survivor_cost zero s = along_start s
  survivor_cost (suc t) s =
      rw (survivor_cost t (before s (choice b P t s)), survivor_length t (before s (choice b P t s)))
      (sym (best_choice b P t s))

  -- the choice is 1 only where oldest bit 0 is dearer, so a way of least cost with oldest bit 0 has the choice 0
  choice_zero : (s : ℕ) (ds : List ℕ) → Bits ds → along b P s (0 ∷ ds) ≡ best b P (suc (length ds)) s
      → choice b P (length ds) s ≡ 1 → ⊥
  unfolding along candidate
  choice_zero s ds bits least e =
      omega (arith, choice_tie b P (length ds) s e, least, best_least (before s 0) ds bits, rw e at (best_choice b P (length ds) s))

  -- a way of least cost is the survivor, or the survivor has 0 at the first place where the two differ
  pub survivor_first : (s : ℕ) (ds : List ℕ) → Bits ds → along b P s ds ≡ best b P (length ds) s
      → (ds ≡ survivor b P (length ds) s) ⊎ First (survivor b P (length ds) s) ds
  unfolding survivor along
  survivor_first s [] bits least = inl refl
  survivor_first s (d ∷ ds) bits least = go (survivor_first (before s d) ds (λ t. bits (suc t))) (eqb c d) refl
    where
      c : ℕ
      c = choice b P (length ds) s

      other : (d : ℕ) → d < 2 → along b P s (d ∷ ds) ≡ best b P (suc (length ds)) s → (c ≡ d → ⊥)
          → First (c ∷ survivor b P (length ds) (before s c)) (d ∷ ds)
      other zero h least apart =
          absurd (choice_zero s ds (λ t. bits (suc t)) least (omega (arith, apart, choice_bit b P (length ds) s)))
      other (suc d) h least apart =
          first_here _ ds (omega (arith, apart, choice_bit b P (length ds) s)) (omega arith)

      go : (along b P (before s d) ds ≡ best b P (length ds) (before s d)
          → (ds ≡ survivor b P (length ds) (before s d)) ⊎ First (survivor b P (length ds) (before s d)) ds)
          → (x : Bool) → eqb c d ≡ x
          → (d ∷ ds ≡ c ∷ survivor b P (length ds) (before s c)) ⊎ First (c ∷ survivor b P (length ds) (before s c)) (d ∷ ds)
      go rest true e =
          let same : c ≡ d = eqb-true c d e in
          rw same (⊎_map (ap (λ l. d ∷ l)) (first_later d) (rest (omega (arith, least, rw same at (best_choice b P (length ds) s)))))
      go rest false e = inr (other d (bits 0) least (eqb-false c d e))

  -- a way that did not start in state 0 costs P at least
  pub started : (s : ℕ) (ds : List ℕ) → (origin s ds ≡ 0 → ⊥) → P ≤ along b P s ds
  unfolding origin along
  started s [] away = rw (ne_eqb s 0 away) (omega arith)
  started s (d ∷ ds) away = omega (arith, started (before s d) ds away)

-- the oldest bits on the best way into state s in one more than t steps that has the oldest bit d
abbrev pub by : (ℕ → ℕ → ℕ) → ℕ → ℕ → ℕ → ℕ → List ℕ
by b P t s d = d ∷ survivor b P t (before s d)

module _ (b : ℕ → ℕ → ℕ) (P t s d : ℕ) where
  pub by_bits : d < 2 → Bits (by b P t s d)
  by_bits h zero = h
  by_bits h (suc i) = survivor_bits b P t (before s d) i

  pub by_length : length (by b P t s d) ≡ suc t
  by_length = ap suc (survivor_length b P t (before s d))

  pub by_cost : along b P s (by b P t s d) ≡ best b P t (before s d) + b t (via s d)
  unfolding along
  by_cost = rw (survivor_cost b P t (before s d), survivor_length b P t (before s d))
