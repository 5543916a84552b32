-- Where P1 puts the X and Y of a step: in a window of the four places from 2 c on, in one of four forms.
--   pair    X at 2 c, Y at 2 c + 1: outside P1's periods, and pairs 1 to 6 of a period
--   lone_y  X dropped, Y at 2 c + 1, the next pair's X and Y at 2 c and 2 c + 3: pair 7
--   apart   X at 2 c, Y at 2 c + 3: pairs 8 to 12
--   lone_x  X at 2 c, Y dropped, the next pair at 2 c + 2 and 2 c + 3: pair 13
-- Assumes nothing.
use mathlib.Core.Path.{◌≡◌, refl, ap, ◌∙◌}
use mathlib.Core.Bool.{Bool, true, false}
use Prim.Native.Nat.{ℕ, suc, ◌+◌, ◌-◌, ◌*◌, ◌/◌, ◌%◌, ◌≤◌, ◌<◌}
use native.Mathlib.Nat.{add-sub_cancel_left}
use native.Mathlib.Omega.{arith}
use lib.Dec.{T, ltb, eqb}
use borrow.Author.Tests.{ltb-true, ltb-false, lt-ltb, le-ltb, eqb-true, eqb-false}
use Rattle.laws.proofs.Tables.{below, below_at}
use Rattle.places.specs.Selection.{Place, goes_to, dropped, later, find, Selection, place}
use Rattle.places.specs.Puncture.{p1, p1_kept}
use Rattle.places.proofs.BlockLaws.{is_at, is_at_at}

-- the four forms of step d, at a window of four places from 2 c on
pub data Form (f : Selection) (d c : ℕ) : Type 0 where
  pair : place f (2 * d) ≡ goes_to (2 * c) → place f (2 * d + 1) ≡ goes_to (2 * c + 1) → Form f d c
  apart : place f (2 * d) ≡ goes_to (2 * c) → place f (2 * d + 1) ≡ goes_to (2 * c + 3) → Form f d c
  lone_y : place f (2 * d + 1) ≡ goes_to (2 * c + 1) → place f (2 * d + 2) ≡ goes_to (2 * c) → place f (2 * d + 3) ≡ goes_to (2 * c + 3) → Form f d c
  lone_x : place f (2 * d) ≡ goes_to (2 * c) → place f (2 * d + 2) ≡ goes_to (2 * c + 2) → place f (2 * d + 3) ≡ goes_to (2 * c + 3) → Form f d c

-- step d has one of the four forms
abbrev pub Formed : Selection → ℕ → Type 0
Formed f d = (c : ℕ) × Form f d c

later_later : (o n : ℕ) (p : Place) → later o (later n p) ≡ later (o + n) p
unfolding later
later_later o n (goes_to j) = ap goes_to (omega arith)
later_later o n dropped = refl

p1_before : (a m : ℕ) → m < 2 * a → place (p1 a) m ≡ goes_to m
unfolding place p1
p1_before a m h = rw (lt-ltb m (2 * a) h)

-- what comes behind the start of the periods
behind : (a e : ℕ) → ltb (2 * a + e) (2 * a) ≡ false
behind a e = le-ltb (2 * a + e) (2 * a) (omega arith)

p1_after : (a e m p : ℕ) → (m ≡ 2 * a + (156 + e)) × (p ≡ 2 * (a + 72) + e) → place (p1 a) m ≡ goes_to p
unfolding place p1 later
p1_after a e m p (hm, hp) =
    rw (hm, behind a (156 + e), add-sub_cancel_left (2 * a), le-ltb (156 + e) 156 (omega arith), add-sub_cancel_left 156)
    (ap goes_to (omega arith))

p1_inside : (a j e : ℕ) → j < 6 → e < 26 → place (p1 a) (2 * a + (26 * j + e)) ≡ later (2 * (a + 12 * j)) (find e p1_kept)
unfolding place p1 p1_kept
p1_inside a j e hj he =
    let period : (26 * j + e) / 26 ≡ j = omega arith in
    let inside : (26 * j + e) % 26 ≡ e = omega arith in
    rw (behind a (26 * j + e), add-sub_cancel_left (2 * a), lt-ltb (26 * j + e) 156 (omega arith), period, inside)
    (later_later (2 * a) (24 * j) (find e p1_kept) ∙ ap (λ o. later o (find e p1_kept)) (omega arith))

-- a rule of table 2, by a test of its first n cases
rule : (x y : ℕ → ℕ) (n : ℕ) → T (below (λ i. is_at (y i) (find (x i) p1_kept)) n) → (i : ℕ) → i < n → find (x i) p1_kept ≡ goes_to (y i)
rule x y n t i h = is_at_at (y i) (find (x i) p1_kept) (below_at (λ i. is_at (y i) (find (x i) p1_kept)) n t i h)

-- a period's first twelve bits, X of its last six pairs, and Y of all pairs but the last
first_12 : (e : ℕ) → e < 12 → find e p1_kept ≡ goes_to e
unfolding find later p1_kept
first_12 = rule (λ e. e) (λ e. e) 12 tt

last_x : (i : ℕ) → i < 6 → find (2 * i + 14) p1_kept ≡ goes_to (2 * i + 12)
unfolding find later p1_kept
last_x = rule (λ i. 2 * i + 14) (λ i. 2 * i + 12) 6 tt

first_y : (i : ℕ) → i < 12 → find (2 * i + 1) p1_kept ≡ goes_to (2 * i + 1)
unfolding find later p1_kept
first_y = rule (λ i. 2 * i + 1) (λ i. 2 * i + 1) 12 tt

-- bit e of period j, which the period keeps as its bit k
at : (a j e : ℕ) {k m p : ℕ} → find e p1_kept ≡ goes_to k
    → (j < 6) × (e < 26) × (m ≡ 2 * a + (26 * j + e)) × (p ≡ 2 * (a + 12 * j) + k) → place (p1 a) m ≡ goes_to p
unfolding later
at a j e found (hj, he, hm, hp) = rw (hm, hp) (p1_inside a j e hj he ∙ ap (later (2 * (a + 12 * j))) found)

-- the first pair behind period j: of the next period, or behind them all
next : (a j r m p : ℕ) → (j < 6) × (r < 2) × (m ≡ 2 * a + (26 * suc j + r)) × (p ≡ 2 * (a + 12 * suc j) + r) → place (p1 a) m ≡ goes_to p
next a j r m p (hj, hr, hm, hp) = go (ltb (suc j) 6) refl
  where
    go : (t : Bool) → ltb (suc j) 6 ≡ t → place (p1 a) m ≡ goes_to p
    go true e = let inside : suc j < 6 = ltb-true (suc j) 6 e in at a (suc j) r (first_12 r (omega arith)) (omega arith)
    go false e = let last : j ≡ 5 = omega (arith, ltb-false (suc j) 6 e) in p1_after a r m p (omega arith)

-- pair i + 1 of period j
module _ (a j i d : ℕ) (hj : j < 6) (hd : d ≡ a + (13 * j + i)) where
  pairs_1_6 : i < 6 → Formed (p1 a) d
  pairs_1_6 h = (
    a + 12 * j + i,
    pair (at a j (2 * i) (first_12 (2 * i) (omega arith)) (omega arith)) (at a j (2 * i + 1) (first_y i (omega arith)) (omega arith)),
  )

  pair_7 : i ≡ 6 → Formed (p1 a) d
  unfolding find later p1_kept
  pair_7 h = (a + 12 * j + 6, lone_y (at a j 13 refl (omega arith)) (at a j 14 refl (omega arith)) (at a j 15 refl (omega arith)))

  pairs_8_12 : 6 < i → i < 12 → Formed (p1 a) d
  pairs_8_12 h l =
      let same : 2 * (i - 7) + 14 ≡ 2 * i = omega arith in (
        a + 12 * j + (i - 1),
        apart (at a j (2 * i) (rw same at (last_x (i - 7) (omega arith))) (omega arith)) (at a j (2 * i + 1) (first_y i l) (omega arith)),
      )

  pair_13 : i ≡ 12 → Formed (p1 a) d
  unfolding find later p1_kept
  pair_13 h =
      let c : ℕ = a + 12 * j + 11 in
      let next_x : place (p1 a) (2 * d + 2) ≡ goes_to (2 * c + 2) = next a j 0 (2 * d + 2) (2 * c + 2) (omega arith) in
      let next_y : place (p1 a) (2 * d + 3) ≡ goes_to (2 * c + 3) = next a j 1 (2 * d + 3) (2 * c + 3) (omega arith) in
      (c, lone_x (at a j 24 refl (omega arith)) next_x next_y)

  in_period : i < 13 → Formed (p1 a) d
  in_period h = go (ltb i 6) (eqb i 6) (ltb i 12) refl refl refl
    where
      go : (x y z : Bool) → ltb i 6 ≡ x → eqb i 6 ≡ y → ltb i 12 ≡ z → Formed (p1 a) d
      go true y z p q r = pairs_1_6 (ltb-true i 6 p)
      go false true z p q r = pair_7 (eqb-true i 6 q)
      go false false true p q r = pairs_8_12 (omega (arith, ltb-false i 6 p, eqb-false i 6 q)) (ltb-true i 12 r)
      go false false false p q r = pair_13 (omega (arith, ltb-false i 12 r))

-- P1 puts every step in one of the four forms
pub p1_formed : (a d : ℕ) → Formed (p1 a) d
p1_formed a d = go (ltb d a) (ltb (d - a) 78) refl refl
  where
    go : (x y : Bool) → ltb d a ≡ x → ltb (d - a) 78 ≡ y → Formed (p1 a) d
    go true y p q =
        let h : d < a = ltb-true d a p in
        (d, pair (p1_before a (2 * d) (omega arith)) (p1_before a (2 * d + 1) (omega arith)))
    go false true p q =
        let s : ℕ = d - a in
        in_period a (s / 13) (s % 13) d (omega (arith, ltb-true (d - a) 78 q)) (omega (arith, ltb-false d a p)) (omega arith)
    go false false p q =
        let h : a + 78 ≤ d = omega (arith, ltb-false d a p, ltb-false (d - a) 78 q) in
        let c : ℕ = d - 6 in
        let e : ℕ = 2 * (d - a - 78) in
        (c, pair (p1_after a e (2 * d) (2 * c) (omega arith)) (p1_after a (e + 1) (2 * d + 1) (2 * c + 1) (omega arith)))
