-- Laws of selections: how many bits go in and come out, that place and origin undo each other, and sums over the sent bits.
--   Takes         i bits in give o bits out
--   origin_place  what goes out at q has the place q
--   place_origin  what has the place j is what goes out at j
--   total_sent    a sum over the sent bits is the sum over the input bits that have a place
-- Assumes nothing.
use mathlib.Core.Path.{◌≡◌, refl, sym, ap, ◌∙◌}
use mathlib.Core.Bool.{Bool, true, false}
use mathlib.Core.Logic.{◌≢◌}
use Prim.Native.Nat.{ℕ, ◌+◌, ◌-◌, ◌≤◌, ◌<◌}
use native.Mathlib.Nat.{add-sub_cancel_left}
use native.Mathlib.Omega.{arith}
use lib.Dec.{ltb, eqb}
use borrow.Author.Tests.{ltb-true, ltb-false, lt-ltb, le-ltb, eq-eqb, ne_eqb}
use Rattle.laws.specs.Lists.{choose}
use Rattle.laws.specs.Sums.{total}
use Rattle.laws.proofs.SumLaws.{total_ext, total_none, total_only, total_swap}
use Rattle.places.specs.Selection.{Place, goes_to, dropped, later, onwards, Selection, all, blocks, after, beside, place, origin, at_place}
use Rattle.places.proofs.BlockLaws.{dropped_not_at, later_at, onwards_at, Blocks, origin_blocks, place_blocks}

-- i bits in give o bits out
unfoldable pub Takes : Selection → ℕ → ℕ → Type 0
Takes all i o = i ≡ o
Takes (blocks kept period) i o = Blocks kept period i o
Takes (after f g) i o = (m : ℕ) × Takes f i m × Takes g m o
Takes (beside i₁ o₁ f g) i o = (i₂ o₂ : ℕ) × (i ≡ i₁ + i₂) × (o ≡ o₁ + o₂) × Takes f i₁ o₁ × Takes g i₂ o₂

-- what goes out at q is one of the first i bits, and has the place q
abbrev pub Back : Selection → ℕ → ℕ → Type 0
Back f i q = (origin f q < i) × (place f (origin f q) ≡ goes_to q)

-- a place j is one of the first o, and there goes out the bit m
abbrev pub Forth : Selection → ℕ → ℕ → ℕ → Type 0
Forth f o m j = (j < o) × (origin f j ≡ m)

module _ (i₁ o₁ : ℕ) (f g : Selection) {i₂ o₂ : ℕ} where
  origin_beside : (q : ℕ) → q < o₁ + o₂ → (q < o₁ → Back f i₁ q) → (q - o₁ < o₂ → Back g i₂ (q - o₁)) → Back (beside i₁ o₁ f g) (i₁ + i₂) q
  unfolding origin place later
  origin_beside q h first second = go (ltb q o₁) refl
    where
      go : (t : Bool) → ltb q o₁ ≡ t
          → (choose t (origin f q) (i₁ + origin g (q - o₁)) < i₁ + i₂)
          × (place (beside i₁ o₁ f g) (choose t (origin f q) (i₁ + origin g (q - o₁))) ≡ goes_to q)
      go true e =
          let (hi, there) = first (ltb-true q o₁ e) in
          rw (lt-ltb (origin f q) i₁ hi) (omega arith, there)
      go false e =
          let hq : o₁ ≤ q = ltb-false q o₁ e in
          let (hi, there) = second (omega arith) in
          rw (le-ltb (i₁ + origin g (q - o₁)) i₁ (omega arith), add-sub_cancel_left i₁, there) (omega arith, ap goes_to (omega arith))

  place_beside : (m j : ℕ) → m < i₁ + i₂ → place (beside i₁ o₁ f g) m ≡ goes_to j
      → (m < i₁ → place f m ≡ goes_to j → Forth f o₁ m j)
      → ((k : ℕ) → m - i₁ < i₂ → place g (m - i₁) ≡ goes_to k → Forth g o₂ (m - i₁) k)
      → Forth (beside i₁ o₁ f g) (o₁ + o₂) m j
  unfolding origin place
  place_beside m j h e first second = go (ltb m i₁) refl e
    where
      go : (t : Bool) → ltb m i₁ ≡ t → choose t (place f m) (later o₁ (place g (m - i₁))) ≡ goes_to j
          → (j < o₁ + o₂) × (choose (ltb j o₁) (origin f j) (i₁ + origin g (j - o₁)) ≡ m)
      go true b p =
          let (ho, same) = first (ltb-true m i₁ b) p in
          rw (lt-ltb j o₁ ho) (omega arith, same)
      go false b p =
          let hm : i₁ ≤ m = ltb-false m i₁ b in
          let (k, there, sum) = later_at o₁ (place g (m - i₁)) j p in
          let (ho, same) = second k (omega arith) there in
          rw (sum, le-ltb (o₁ + k) o₁ (omega arith), add-sub_cancel_left o₁ k) (omega arith, omega arith)

-- what goes out at q has the place q
pub origin_place : (f : Selection) {i o : ℕ} → Takes f i o → (q : ℕ) → q < o → Back f i q
unfolding Takes origin place onwards
origin_place all t q h = (omega (arith, t), refl)
origin_place (blocks kept period) t q h = origin_blocks kept period t q h
origin_place (after f g) (m, tf, tg) q h =
    let (hm, out) = origin_place g tg q h in
    let (hi, between) = origin_place f tf (origin g q) hm in
    (hi, rw (between, onwards) out)
origin_place (beside i₁ o₁ f g) (i₂, o₂, takes, gives, tf, tg) q h =
    rw takes (origin_beside i₁ o₁ f g q (rw gives at h) (origin_place f tf q) (origin_place g tg (q - o₁)))

-- what has the place j is what goes out at j
pub place_origin : (f : Selection) {i o : ℕ} → Takes f i o → (m j : ℕ) → m < i → place f m ≡ goes_to j → Forth f o m j
unfolding Takes origin place
place_origin all t m j h e = let same : m ≡ j = cc in (omega (arith, t), sym same)
place_origin (blocks kept period) t m j h e = place_blocks kept period t m j h e
place_origin (after f g) (n, tf, tg) m j h e =
    let (k, between, out) = onwards_at (place f m) (place g) j e in
    let (hn, back) = place_origin f tf m k h between in
    let (ho, same) = place_origin g tg k j hn out in
    (ho, rw same back)
place_origin (beside i₁ o₁ f g) (i₂, o₂, takes, gives, tf, tg) m j h e =
    rw gives (place_beside i₁ o₁ f g m j (rw takes at h) e (place_origin f tf m j) (λ k. place_origin g tg (m - i₁) k))

-- x where a place is At q, else 0
picked : ℕ → ℕ → Place → ℕ
picked q x p = at_place (λ j. choose (eqb j q) x 0) p

picked_here : (q x : ℕ) {p : Place} → p ≡ goes_to q → picked q x p ≡ x
unfolding picked at_place
picked_here q x {p} e = rw (e, at_place, eq-eqb q q refl)

picked_other : (q x : ℕ) (p : Place) → p ≢ goes_to q → picked q x p ≡ 0
unfolding picked at_place
picked_other q x (goes_to j) other = rw (ne_eqb j q (λ e. other (ap goes_to e)))
picked_other q x dropped other = refl

-- the sum over all places of what is picked there
total_picked : (o : ℕ) (g : ℕ → ℕ) (p : Place) → ((j : ℕ) → p ≡ goes_to j → j < o) → total o (λ q. picked q (g q) p) ≡ at_place g p
unfolding at_place
total_picked o g (goes_to j) low =
    total_only o (λ q. picked q (g q) (goes_to j)) j (low j refl) (λ k h other. picked_other k (g k) (goes_to j) (λ e. other (cc)))
    ∙ picked_here j (g j) refl
total_picked o g dropped low = total_none o (λ q. picked q (g q) dropped) (λ q h. picked_other q (g q) dropped dropped_not_at)

-- a sum over the sent bits is the sum over the input bits that have a place
pub total_sent : (f : Selection) (i o : ℕ) → Takes f i o → (F : ℕ → ℕ → ℕ)
    → total o (λ q. F (origin f q) q) ≡ total i (λ m. at_place (F m) (place f m))
total_sent f i o t F =
    total_ext o (λ q. F (origin f q) q) (λ q. total i (λ m. picked q (F m q) (place f m))) by_origin
    ∙ total_swap o i (λ q m. picked q (F m q) (place f m))
    ∙ total_ext i (λ m. total o (λ q. picked q (F m q) (place f m))) (λ m. at_place (F m) (place f m)) by_place
  where
    by_origin : (q : ℕ) → q < o → F (origin f q) q ≡ total i (λ m. picked q (F m q) (place f m))
    by_origin q h =
        let (hi, there) = origin_place f t q h in
        sym (total_only i (λ m. picked q (F m q) (place f m)) (origin f q) hi
        (λ m hm other. picked_other q (F m q) (place f m) (λ e. other (sym (place_origin f t m q hm e).1)))
        ∙ picked_here q (F (origin f q) q) there)

    by_place : (m : ℕ) → m < i → total o (λ q. picked q (F m q) (place f m)) ≡ at_place (F m) (place f m)
    by_place m h = total_picked o (F m) (place f m) (λ j e. (place_origin f t m j h e).0)
