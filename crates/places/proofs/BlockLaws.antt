-- Laws of places, and of selections by blocks: what is found stands there, and place and origin undo each other.
--   sound   a kept list's one test: its entries are below the period, and each stands where it is found
--   Blocks  whole blocks go in and come out
-- Assumes nothing.
use mathlib.Core.Path.{◌≡◌, refl, sym, ap, ◌∙◌}
use mathlib.Core.Bool.{Bool, true, false}
use mathlib.Core.List.{List, [], ◌∷◌}
use Prim.Native.Nat.{ℕ, zero, suc, ◌+◌, ◌*◌, ◌/◌, ◌%◌, ◌<◌}
use native.Mathlib.Nat.{mul_comm, zero-mul, mod-lt, mod-eq_of_lt, div-eq_of_lt, div-add-mod, div-lt_iff_lt-mul, mul-add-div, mul-add-mod_self_left, not-suc-le-zero}
use native.Mathlib.Omega.{arith}
use lib.Dec.{T, ltb, eqb, ltb→lt, eqb→eq}
use lib.ListN.{length, get_or}
use lib.Arith.{digits_lt}
use borrow.Author.Tests.{eqb-true}
use Rattle.laws.specs.Lists.{choose}
use Rattle.laws.proofs.Tables.{both, both_left, both_right, below, below_at}
use Rattle.places.specs.Selection.{Place, goes_to, dropped, later, onwards, find, blocks, place, origin}

-- a place is At j
abbrev pub is_at : ℕ → Place → Bool
is_at j (goes_to k) = eqb k j
is_at j dropped = false

pub is_at_at : (j : ℕ) (p : Place) → T (is_at j p) → p ≡ goes_to j
is_at_at j (goes_to k) t = ap goes_to (eqb→eq k j t)
is_at_at j dropped t = absurd t

-- the entries of a kept list are below the period, and each stands where it is found
abbrev pub sound : List ℕ → ℕ → Bool
sound kept period = below (λ j. both (ltb (get_or kept j 0) period) (is_at j (find (get_or kept j 0) kept))) (length kept)

-- whole blocks go in and come out
pub record Blocks (kept : List ℕ) (period i o : ℕ) : Type 0 where
  pub count : ℕ
  pub takes : i ≡ period * count
  pub gives : o ≡ length kept * count
  pub some : 0 < period
  pub kept_sound : T (sound kept period)

pub dropped_not_at : {j : ℕ} → dropped ≡ goes_to j → ⊥
dropped_not_at e = let z : ◌≡◌ {A = ℕ} 0 1 = cc in omega arith

-- a later place was a place
pub later_at : (o : ℕ) (p : Place) (j : ℕ) → later o p ≡ goes_to j → (k : ℕ) × (p ≡ goes_to k) × (j ≡ o + k)
unfolding later
later_at o (goes_to k) j e = (k, refl, cc)
later_at o dropped j e = absurd (dropped_not_at e)

-- a place after two selections was a place after the first
pub onwards_at : (p : Place) (g : ℕ → Place) (j : ℕ) → onwards p g ≡ goes_to j → (k : ℕ) × (p ≡ goes_to k) × (g k ≡ goes_to j)
unfolding onwards
onwards_at (goes_to k) g j e = (k, refl, e)
onwards_at dropped g j e = absurd (dropped_not_at e)

-- what is found stands there
pub find_at : (r : ℕ) (kept : List ℕ) (j : ℕ) → find r kept ≡ goes_to j → (j < length kept) × (get_or kept j 0 ≡ r)
unfolding find
find_at r [] j e = absurd (dropped_not_at e)
find_at r (x ∷ xs) j e = go (find_at r xs) (eqb r x) refl e
  where
    go : ((k : ℕ) → find r xs ≡ goes_to k → (k < length xs) × (get_or xs k 0 ≡ r)) → (t : Bool) → eqb r x ≡ t
        → choose t (goes_to 0) (later 1 (find r xs)) ≡ goes_to j → (j < length (x ∷ xs)) × (get_or (x ∷ xs) j 0 ≡ r)
    go rest true h e =
        let first : j ≡ 0 = cc in
        rw first (omega arith, sym (eqb-true r x h))
    go rest false h e =
        let (k, there, next) = later_at 1 (find r xs) j e in
        let one : j ≡ suc k = omega arith in
        rw one (omega (arith, (rest k there).0), (rest k there).1)

-- a number by its quotient and remainder
quotient : {p r : ℕ} (d : ℕ) → r < p → (p * d + r) / p ≡ d
quotient {p} {r} d h = mul-add-div (omega arith) d r ∙ ap (λ e. d + e) (div-eq_of_lt h) ∙ omega arith

remainder : {p r : ℕ} (d : ℕ) → r < p → (p * d + r) % p ≡ r
remainder {p} {r} d h = mul-add-mod_self_left p d r ∙ mod-eq_of_lt h

within : {p r d b : ℕ} → d < b → r < p → p * d + r < p * b
within {p} {r} {d} {b} h k = rw (mul_comm p d, mul_comm p b) (digits_lt h k)

block : {p m b : ℕ} → 0 < p → m < p * b → m / p < b
block {p} {m} {b} some h = (div-lt_iff_lt-mul some).1 (rw (mul_comm p b) at h)

factor : (p b : ℕ) {m : ℕ} → m < p * b → 0 < p
factor zero b h = absurd (not-suc-le-zero (rw zero-mul at h))
factor (suc p) b h = omega arith

module _ (kept : List ℕ) (period : ℕ) where
  -- what the test says of an entry
  pub entry : T (sound kept period) → (j : ℕ) → j < length kept → (get_or kept j 0 < period) × (find (get_or kept j 0) kept ≡ goes_to j)
  entry t j h =
      let r : ℕ = get_or kept j 0 in
      let e : T (both (ltb r period) (is_at j (find r kept))) = below_at _ (length kept) t j h in (
        ltb→lt r period (both_left (ltb r period) (is_at j (find r kept)) e),
        is_at_at j (find r kept) (both_right (ltb r period) (is_at j (find r kept)) e),
      )

  pub origin_blocks : {i o : ℕ} → Blocks kept period i o → (q : ℕ) → q < o
      → (origin (blocks kept period) q < i) × (place (blocks kept period) (origin (blocks kept period) q) ≡ goes_to q)
  unfolding origin place later
  origin_blocks t q h =
      let hq : q < length kept * t.count = omega (arith, t.gives) in
      let some : 0 < length kept = factor (length kept) t.count hq in
      let (low, there) = entry t.kept_sound (q % length kept) (mod-lt q some) in
      rw (t.takes, quotient (q / length kept) low, remainder (q / length kept) low, there)
      (within (block some hq) low, ap goes_to (div-add-mod q (length kept)))

  pub place_blocks : {i o : ℕ} → Blocks kept period i o → (m j : ℕ) → m < i
      → place (blocks kept period) m ≡ goes_to j → (j < o) × (origin (blocks kept period) j ≡ m)
  unfolding origin place
  place_blocks t m j h e =
      let hm : m < period * t.count = omega (arith, t.takes) in
      let (k, there, sum) = later_at (length kept * (m / period)) (find (m % period) kept) j e in
      let (low, same) = find_at (m % period) kept k there in
      rw (t.gives, sum, quotient (m / period) low, remainder (m / period) low, same)
      (within (block t.some hm) low, div-add-mod m period)
