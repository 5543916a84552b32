-- Laws of values put at scattered places: none, one more, and all of them.
-- Assumes nothing.
use mathlib.Core.Path.{◌≡◌, refl, sym, ◌∙◌, ap}
use mathlib.Core.Bool.{Bool, true, false}
use mathlib.Core.List.{List}
use Prim.Native.Nat.{ℕ, ◌+◌, ◌-◌, ◌≤◌, ◌<◌}
use native.Mathlib.Omega.{arith}
use lib.Dec.{ltb}
use lib.ListN.{length, get_or, set, length-set}
use lib.Seq.{get_or-set_same, get_or-set_other}
use borrow.Author.Tests.{ltb-true, ltb-false}
use Rattle.laws.specs.Lists.{filled}
use Rattle.laws.specs.Scatter.{Seats, Scattered, Placed}
use Rattle.laws.proofs.ListLaws.{after_set, filled_at, filled_past, filled_length, filled_ext}

module _ (base size : ℕ) (table : List ℕ) (v : ℕ → ℕ) (l : List ℕ) (seats : Seats table size) (room : base + size ≤ length l) where
  pub scattered_again : (k : ℕ) (l' : List ℕ) (x : ℕ) → Scattered base size table v k l l' → k < size → x ≡ v k
      → Scattered base size table v (k + 1) l (set l' (base + get_or table k 0) x)
  scattered_again k l' x s h e =
      let j = get_or table k 0 in
      let inside : j < size = seats.within k h in
      record {
        long = length-set l' (base + j) x ∙ s.long;
        put = λ i hi. put i hi (ltb i k) refl;
        before = λ q hq. get_or-set_other l' (base + j) q x 0 (omega arith) ∙ s.before q hq;
        behind = λ q hq. get_or-set_other l' (base + j) q x 0 (omega arith) ∙ s.behind q hq;
      }
    where
      put : (i : ℕ) → i < k + 1 → (b : Bool) → ltb i k ≡ b → get_or (set l' (base + get_or table k 0) x) (base + get_or table i 0) 0 ≡ v i
      put i hi true t =
          let other : base + get_or table i 0 ≡ base + get_or table k 0 → ⊥ = λ same. seats.apart i k (ltb-true i k t) h (omega arith) in
          get_or-set_other l' (base + get_or table k 0) (base + get_or table i 0) x 0 other ∙ s.put i (ltb-true i k t)
      put i hi false t =
          let last : i ≡ k = omega (arith, ltb-false i k t) in
          let inside : get_or table k 0 < size = seats.within k h in
          rw last (get_or-set_same l' (base + get_or table k 0) x 0 (omega (arith, s.long)) ∙ e)

-- when all of them stand, a buffer filled up to the part is filled up to its end
pub scattered_all : (base size : ℕ) (table : List ℕ) (v f back : ℕ → ℕ) (l₀ l' : List ℕ)
    → base + size ≤ length l₀
    → ((j : ℕ) → j < size → (back j < size) × (get_or table (back j) 0 ≡ j) × (f (base + j) ≡ v (back j)))
    → Scattered base size table v size (filled base f l₀) l'
    → l' ≡ filled (base + size) f l₀
scattered_all base size table v f back l₀ l' room seat s =
    filled_ext 0 (base + size) f l₀ l' (s.long ∙ filled_length base f l₀ (omega arith)) room
    (λ q h. front q h (ltb q base) refl)
    (λ q h h'. s.behind q h ∙ filled_past base f l₀ q 0 (omega arith))
  where
    placed : (j : ℕ) → j < size → get_or l' (base + j) 0 ≡ f (base + j)
    placed j h =
        let (inside, there, same) = seat j h in
        ap (λ (i : ℕ). get_or l' (base + i) 0) (sym there) ∙ s.put (back j) inside ∙ sym same

    front : (q : ℕ) → q < base + size → (b : Bool) → ltb q base ≡ b → get_or l' q 0 ≡ f q
    front q h true t = s.before q (ltb-true q base t) ∙ filled_at base f l₀ q 0 (ltb-true q base t)
    front q h false t =
        let low : base ≤ q = ltb-false q base t in
        let e : base + (q - base) ≡ q = omega arith in
        rw e at (placed (q - base) (omega arith))

module _ (to v : ℕ → ℕ) (n : ℕ) (l l₁ : List ℕ) (p : Placed to v n l l₁) where
  -- one value more, at a place that is not taken
  pub placed_again : (x : ℕ) → x ≡ v n → to n < length l → ((k : ℕ) → k < n → to k ≡ to n → ⊥) → Placed to v (n + 1) l (set l₁ (to n) x)
  placed_again x e inside apart = record {
    long = length-set l₁ (to n) x ∙ p.long;
    put = λ k h. after_set l₁ (to n) x (to k) 0 (v k) (omega (arith, p.long))
        (λ same. e ∙ ap v (sym (last k h (ltb k n) refl same)))
        (λ other. p.put k (earlier k h other));
    others = λ m free.
        get_or-set_other l₁ (to n) m x 0 (λ same. free n (omega arith) (sym same)) ∙ p.others m (λ k h. free k (omega arith));
  }
    where
      last : (k : ℕ) → k < n + 1 → (b : Bool) → ltb k n ≡ b → to k ≡ to n → k ≡ n
      last k h true t same = absurd (apart k (ltb-true k n t) same)
      last k h false t same = omega (arith, ltb-false k n t)

      earlier : (k : ℕ) → k < n + 1 → (to k ≡ to n → ⊥) → k < n
      earlier k h other = go (ltb k n) refl
        where
          go : (b : Bool) → ltb k n ≡ b → k < n
          go true t = ltb-true k n t
          go false t = let same : k ≡ n = omega (arith, ltb-false k n t) in absurd (other (ap to same))

  -- more values behind them, none of them at a place that is taken
  pub placed_on : (to' v' : ℕ → ℕ) (m : ℕ) (l₂ : List ℕ) → Placed to' v' m l₁ l₂
      → ((k : ℕ) → k < m → (to' k ≡ to (n + k)) × (v' k ≡ v (n + k)))
      → ((j k : ℕ) → j < k → k < n + m → to j ≡ to k → ⊥)
      → Placed to v (n + m) l l₂
  placed_on to' v' m l₂ q same apart = record {
    long = q.long ∙ p.long;
    put = λ k h. put k h (ltb k n) refl;
    others = λ j free.
        q.others j (λ k h e. free (n + k) (omega arith) (sym (same k h).0 ∙ e)) ∙ p.others j (λ k h. free k (omega arith));
  }
    where
      put : (k : ℕ) → k < n + m → (b : Bool) → ltb k n ≡ b → get_or l₂ (to k) 0 ≡ v k
      put k h true t =
          let front : k < n = ltb-true k n t in
          q.others (to k) (λ j hj e. apart k (n + j) (omega arith) (omega arith) (sym e ∙ (same j hj).0)) ∙ p.put k front
      put k h false t =
          let e : n + (k - n) ≡ k = omega (arith, ltb-false k n t) in
          let behind : k - n < m = omega (arith, ltb-false k n t) in
          rw e at (ap (λ (i : ℕ). get_or l₂ i 0) (sym (same (k - n) behind).0) ∙ q.put (k - n) behind ∙ (same (k - n) behind).1)
