-- Laws of the range -80 to 80: every soft byte that is made lies in it, and the test that soft bytes do.
-- Assumes nothing.
use mathlib.Core.Path.{◌≡◌, refl, sym}
use mathlib.Core.Bool.{Bool, true, false, not, ◌&&◌, ◌||◌, false≢true}
use mathlib.Core.List.{List, [], ◌∷◌}
use Prim.Native.Nat.{ℕ, zero, suc, ◌-◌, ◌%◌, ◌<◌, ◌≤◌}
use native.Mathlib.Omega.{arith}
use lib.Dec.{ltb}
use lib.IntN.{ℤ, pos, ◌-ℤ◌}
use lib.ListN.{length, get_or}
use lib.Signed.{lt_z, clash_ℤ, lt_z_yes, lt_z_no}
use Rattle.std.proofs.lemmas.Bool.{false_from_ne_true}
use Rattle.std.specs.Prelude.{◌↔◌, ◌≤ℤ◌, IsTrue, EachIndex, slice_index_or}
use borrow.Author.Tests.{le-ltb, ltb-true, ltb-false}
use Rattle.laws.specs.Lists.{tabulate}
use Rattle.laws.proofs.SignedLaws.{less_pos, less_neg}
use Rattle.modes.specs.declared.Constellation.{Constellation}
use Rattle.modes.specs.Modes.{bits_of}
use Rattle.points.specs.Levels.{minus, width_i, width_q}
use Rattle.soft.specs.Soft.{soft_byte}
use Rattle.soft.specs.Carriers.{exact_of, exact_at, soft_at, is_soft, all_soft}
use Rattle.soft.specs.Closed.{up, down, near}
use Rattle.soft.proofs.ClosedLaws.{held_to, up_within, down_within, soft_closed}
use Rattle.soft.proofs.CarrierLaws.{widths, within}

less_soft : (a b : ℕ) → a ≤ 80 → b ≤ 80 → is_soft (pos a -ℤ pos b) ≡ true
unfolding is_soft
less_soft a b ha hb = go (ltb a b) refl
  where
    go : (t : Bool) → ltb a b ≡ t → is_soft (pos a -ℤ pos b) ≡ true
    go true e =
        let h : a < b = ltb-true a b e in
        rw (less_neg a b h, le-ltb 79 (b - suc a) (omega arith))
    go false e =
        let h : b ≤ a = ltb-false a b e in
        rw (less_pos a b h, le-ltb 80 (a - b) (omega arith))

byte_range : (w j : ℕ) (r : ℤ) → j < w → w ≤ 3 → is_soft (soft_byte w j r) ≡ true
byte_range w j r hj hw =
    rw (soft_closed w j r hj hw)
    (less_soft (near (up (w - j) (held_to w j r))) (near (down (w - j) (held_to w j r)))
    (omega (arith, up_within w j r hj hw)) (omega (arith, down_within w j r hj hw)))

pub soft_range : (c : Constellation) (i q : List ℤ) (p : ℕ) → is_soft (soft_at c i q p) ≡ true
unfolding soft_at exact_at exact_of soft_byte
soft_range c i q p = go (ltb (p % bits_of c) (width_i c)) refl
  where
    go : (t : Bool) → ltb (p % bits_of c) (width_i c) ≡ t → is_soft (soft_at c i q p) ≡ true
    go true e = rw e (byte_range (width_i c) (p % bits_of c) _ (ltb-true (p % bits_of c) (width_i c) e) (widths c).1)
    go false e =
        let h : width_i c ≤ p % bits_of c = ltb-false (p % bits_of c) (width_i c) e in
        rw e (byte_range (width_q c) (p % bits_of c - width_i c) _ (omega (arith, widths c, within c p)) (widths c).2)

-- soft bytes that are made and all lie in the range
pub all_soft_lem : (n : ℕ) (f : ℕ → ℤ) → ((k : ℕ) → is_soft (f k) ≡ true) → all_soft (tabulate n f) ≡ true
unfolding all_soft tabulate
all_soft_lem zero f each = refl
all_soft_lem (suc n) f each = rw (each 0, all_soft_lem n (λ k. f (suc k)) (λ k. each (suc k)))

both_true : (a b : Bool) → (a && b) ≡ true → (a ≡ true) × (b ≡ true)
both_true true b e = (refl, e)
both_true false b e = (e, (cc))

-- past the end stands 0, which lies in the range too
pub all_soft_at : (l : List ℤ) → all_soft l ≡ true → (k : ℕ) → is_soft (get_or l k (pos 0)) ≡ true
unfolding is_soft all_soft
all_soft_at [] all k = refl
all_soft_at (x ∷ l) all zero = (both_true (is_soft x) (all_soft l) all).0
all_soft_at (x ∷ l) all (suc k) = all_soft_at l (both_true (is_soft x) (all_soft l) all).1 k

in_soft : (x : ℤ) → minus 80 ≤ℤ x → x ≤ℤ pos 80 → is_soft x ≡ true
unfolding is_soft
in_soft x low high = go _ _ refl refl
  where
    go : (s t : Bool) → lt_z x (minus 80) ≡ s → lt_z (pos 80) x ≡ t → is_soft x ≡ true
    go true t e f = clash_ℤ (lt_z_yes (rw e tt)) low
    go false true e f = clash_ℤ (lt_z_yes (rw f tt)) high
    go false false e f = rw (e, f)

soft_within : (x : ℤ) → is_soft x ≡ true → (minus 80 ≤ℤ x) × (x ≤ℤ pos 80)
unfolding is_soft
soft_within x h = go _ _ refl refl h
  where
    go : (s t : Bool) → lt_z x (minus 80) ≡ s → lt_z (pos 80) x ≡ t → not (s || t) ≡ true → (minus 80 ≤ℤ x) × (x ≤ℤ pos 80)
    go true t e f h = absurd (false≢true h)
    go false true e f h = absurd (false≢true h)
    go false false e f h = (lt_z_no (rw e tt), lt_z_no (rw f tt))

all_soft_by : (l : List ℤ) → ((k : ℕ) → k < length l → is_soft (get_or l k (pos 0)) ≡ true) → all_soft l ≡ true
unfolding all_soft
all_soft_by [] each = refl
all_soft_by (x ∷ l) each = rw (each zero (omega arith)) (all_soft_by l (λ k h. each (suc k) (omega arith)))

-- the test by its outcome
pub soft_by : (l : List ℤ) (r : Bool)
    → (IsTrue r ↔ EachIndex l (λ k. (minus 80 ≤ℤ slice_index_or l k (pos 0)) × (slice_index_or l k (pos 0) ≤ℤ pos 80)))
    → r ≡ all_soft l
soft_by l true h =
    sym (all_soft_by l (λ k hk. let b = h.0 refl k hk in in_soft (get_or l k (pos 0)) b.0 b.1))
soft_by l false h =
    sym (false_from_ne_true (all_soft l) (λ e. false≢true (h.1 (λ k _. soft_within (get_or l k (pos 0)) (all_soft_at l e k)))))
