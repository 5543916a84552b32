-- Laws of lists made by a function and of buffers filled from the front.
-- Assumes nothing.
use mathlib.Core.Path.{◌≡◌, refl, ap, ap₂, sym, ◌∙◌}
use mathlib.Core.Bool.{Bool, true, false}
use mathlib.Core.Logic.{◌≢◌}
use mathlib.Core.List.{List, [], ◌∷◌, ◌++◌, append_assoc}
use Prim.Native.Nat.{ℕ, zero, suc, ◌+◌, ◌-◌, ◌*◌, ◌≤◌, ◌<◌}
use native.Mathlib.Nat.{not-suc-le-zero, le_of_suc-le-suc, zero-add, suc-add}
use native.Mathlib.Numerals.{add-one}
use native.Mathlib.Omega.{arith}
use lib.Dec.{eqb, ltb}
use borrow.Author.Tests.{eqb-true, eqb-false, ltb-true, ltb-false}
use lib.ListN.{length, get_or, set, take, drop, length-append, length-take, length-drop, take-append-drop, get_or-append}
use lib.Seq.{take_all, take_at, drop_at, drop-append-le, drop-drop, drop-cons, set_at, append_snoc, get_or-append-add, get_or-drop, get_or-set_same, get_or-set_other, ext_get_or}
use Rattle.laws.specs.Lists.{tabulate, filled}

module _ {ℓ} {A : Type ℓ} where
  pub tabulate_length : (n : ℕ) (f : ℕ → A) → length (tabulate n f) ≡ n
  unfolding tabulate
  tabulate_length zero f = refl
  tabulate_length (suc n) f = ap suc (tabulate_length n (λ k. f (suc k)))

  pub tabulate_at : (n : ℕ) (f : ℕ → A) (k : ℕ) (d : A) → k < n → get_or (tabulate n f) k d ≡ f k
  unfolding tabulate
  tabulate_at zero f k d h = absurd (not-suc-le-zero h)
  tabulate_at (suc n) f zero d h = refl
  tabulate_at (suc n) f (suc k) d h = tabulate_at n (λ j. f (suc j)) k d (le_of_suc-le-suc h)

  pub tabulate_ext : (n : ℕ) (f g : ℕ → A) → ((k : ℕ) → k < n → f k ≡ g k) → tabulate n f ≡ tabulate n g
  unfolding tabulate
  tabulate_ext zero f g same = refl
  tabulate_ext (suc n) f g same =
      ap₂ ◌∷◌ (same zero (omega arith)) (tabulate_ext n (λ k. f (suc k)) (λ k. g (suc k)) (λ k h. same (suc k) (omega arith)))

  -- one entry more
  pub tabulate_snoc : (n : ℕ) (f : ℕ → A) → tabulate (suc n) f ≡ tabulate n f ++ (f n ∷ [])
  unfolding tabulate
  tabulate_snoc zero f = refl
  tabulate_snoc (suc n) f = ap (λ l. f zero ∷ l) (tabulate_snoc n (λ k. f (suc k)))

  -- so many entries more
  pub tabulate_append : (a n : ℕ) (f : ℕ → A) → tabulate (a + n) f ≡ tabulate a f ++ tabulate n (λ k. f (a + k))
  unfolding tabulate
  tabulate_append zero n f = ap (λ (m : ℕ). tabulate m f) (zero-add n) ∙ tabulate_ext n f _ (λ k h. ap f (sym (zero-add k)))
  tabulate_append (suc a) n f =
      ap (λ (m : ℕ). tabulate m f) (suc-add a n)
      ∙ ap (λ l. f zero ∷ l) (tabulate_append a n (λ k. f (suc k)) ∙ ap (λ l. tabulate a (λ k. f (suc k)) ++ l) (tabulate_ext n _ _ (λ k h. ap f (sym (suc-add a k)))))

  -- the part of a list from a on
  pub part_all : (a : ℕ) (l : List A) → take (length l - a) (drop a l) ≡ drop a l
  part_all a l = take_all (length l - a) (drop a l) (omega (arith, length-drop a l))

  -- an entry after a store
  pub after_set : (l : List A) (i : ℕ) (a : A) (j : ℕ) (d x : A) → i < length l → (j ≡ i → a ≡ x) → (j ≢ i → get_or l j d ≡ x)
      → get_or (set l i a) j d ≡ x
  after_set l i a j d x inside here there = go (eqb j i) refl
    where
      go : (t : Bool) → eqb j i ≡ t → get_or (set l i a) j d ≡ x
      go true t =
          let same : j ≡ i = eqb-true j i t in
          ap (λ (m : ℕ). get_or (set l i a) m d) same ∙ get_or-set_same l i a d inside ∙ here same
      go false t = get_or-set_other l i j a d (eqb-false j i t) ∙ there (eqb-false j i t)

  pub filled_none : (f : ℕ → A) (l : List A) → filled 0 f l ≡ l
  unfolding filled tabulate
  filled_none f l = refl

  -- what is filled in is known by its entries
  pub filled_same : (n : ℕ) (f g : ℕ → A) (l : List A) → ((k : ℕ) → k < n → f k ≡ g k) → filled n f l ≡ filled n g l
  unfolding filled
  filled_same n f g l same = ap (λ t. t ++ drop n l) (tabulate_ext n f g same)

  pub filled_length : (n : ℕ) (f : ℕ → A) (l : List A) → n ≤ length l → length (filled n f l) ≡ length l
  unfolding filled
  filled_length n f l h = simp (length-append, tabulate_length, length-drop) (omega arith)

  -- storing the next entry fills one more
  pub filled_again : (n : ℕ) (f : ℕ → A) (l : List A) → n < length l → set (filled n f l) n (f n) ≡ filled (n + 1) f l
  unfolding filled
  filled_again n f l h =
      rw (add-one n, drop-cons l n (f n) h, set_at (tabulate n f) _ (drop (suc n) l) (f n) n (tabulate_length n f), tabulate_snoc n f)
      (sym (append_snoc (tabulate n f) (f n) (drop (suc n) l)))

  -- the same of a buffer and a value that are known by equations: a turn of a loop that writes in order
  pub filled_put : (n : ℕ) (f : ℕ → A) (l₀ l : List A) (v : A) → l ≡ filled n f l₀ → v ≡ f n → n < length l₀ → set l n v ≡ filled (n + 1) f l₀
  filled_put n f l₀ l v el ev h = rw (el, ev) (filled_again n f l₀ h)

  -- storing the next two fills two more
  pub filled_pair : (t : ℕ) (f : ℕ → A) (l : List A) → 2 * t + 1 < length l
      → set (set (filled (2 * t) f l) (2 * t) (f (2 * t))) (2 * t + 1) (f (2 * t + 1)) ≡ filled (2 * (t + 1)) f l
  filled_pair t f l h =
      let e : 2 * (t + 1) ≡ 2 * t + 1 + 1 = omega arith in
      rw (e, filled_again (2 * t) f l (omega arith)) (filled_again (2 * t + 1) f l h)

  pub filled_at : (n : ℕ) (f : ℕ → A) (l : List A) (k : ℕ) (d : A) → k < n → get_or (filled n f l) k d ≡ f k
  unfolding filled
  filled_at n f l k d h =
      get_or-append (tabulate n f) (drop n l) d k (rw tabulate_length h) ∙ tabulate_at n f k d h

  beyond : (p : List A) (n : ℕ) (l : List A) (j : ℕ) (d : A) → length p ≡ n → get_or (p ++ drop n l) (n + j) d ≡ get_or l (n + j) d
  beyond p n l j d e = ap (λ m. get_or (p ++ drop n l) (m + j) d) (sym e) ∙ get_or-append-add p (drop n l) j d ∙ get_or-drop n l j d

  pub filled_past : (n : ℕ) (f : ℕ → A) (l : List A) (k : ℕ) (d : A) → n ≤ k → get_or (filled n f l) k d ≡ get_or l k d
  unfolding filled
  filled_past n f l k d h =
      let e : n + (k - n) ≡ k = omega arith in
      rw e at (beyond (tabulate n f) n l (k - n) d (tabulate_length n f))

  -- the part that is filled, and the rest
  pub filled_take : (n : ℕ) (f : ℕ → A) (l : List A) → take n (filled n f l) ≡ tabulate n f
  unfolding filled
  filled_take n f l = take_at (tabulate n f) (drop n l) n (tabulate_length n f)

  pub filled_drop : (n : ℕ) (f : ℕ → A) (l : List A) → drop n (filled n f l) ≡ drop n l
  unfolding filled
  filled_drop n f l = drop_at (tabulate n f) (drop n l) n (tabulate_length n f)

  -- filled again from the start
  pub filled_over : (n : ℕ) (f g : ℕ → A) (l : List A) → filled n f (filled n g l) ≡ filled n f l
  filled_over n f g l = unfold filled in ap (λ r. tabulate n f ++ r) (filled_drop n g l)

  -- a buffer is known by its entries
  pub filled_ext : (d : A) (n : ℕ) (f : ℕ → A) (l l' : List A)
      → length l' ≡ length l
      → n ≤ length l
      → ((k : ℕ) → k < n → get_or l' k d ≡ f k)
      → ((k : ℕ) → n ≤ k → k < length l → get_or l' k d ≡ get_or l k d)
      → l' ≡ filled n f l
  filled_ext d n f l l' e h front back =
      ext_get_or d l' (filled n f l) (e ∙ sym (filled_length n f l h)) (λ k hk. go k hk (ltb k n) refl)
    where
      go : (k : ℕ) → k < length l' → (t : Bool) → ltb k n ≡ t → get_or l' k d ≡ get_or (filled n f l) k d
      go k hk true t = front k (ltb-true k n t) ∙ sym (filled_at n f l k d (ltb-true k n t))
      go k hk false t =
          let hn : n ≤ k = ltb-false k n t in
          let hl : k < length l = omega (arith, e) in
          back k hn hl ∙ sym (filled_past n f l k d hn)

  -- a part from a on, of so many entries, is filled from its front, and stands again where it was lent from
  pub filled_part : (a n k : ℕ) (f g : ℕ → A) (l₀ l : List A) → l ≡ filled a f l₀ → n ≤ k → a + n ≤ length l₀
      → ((j : ℕ) → j < n → g j ≡ f (a + j))
      → take a l ++ (filled n g (take k (drop a l)) ++ drop k (drop a l)) ≡ filled (a + n) f l₀
  unfolding filled
  filled_part a n k f g l₀ l el within room same =
      let rest : List A = drop a l₀ in
      let behind : drop a l ≡ rest = ap (drop a) el ∙ filled_drop a f l₀ in
      let front : take a l ≡ tabulate a f = ap (take a) el ∙ filled_take a f l₀ in
      let enough : n ≤ length (take k rest) = omega (arith, length-take k rest, length-drop a l₀) in
      let kept : drop n (take k rest) ++ drop k rest ≡ drop (a + n) l₀ =
      sym (drop-append-le n (take k rest) (drop k rest) enough) ∙ ap (drop n) (take-append-drop k rest) ∙ drop-drop n a l₀
      in
      ap₂ (λ x y. x ++ ((tabulate n g ++ drop n (take k y)) ++ drop k y)) front behind
      ∙ ap (λ x. tabulate a f ++ x) (append_assoc (tabulate n g) (drop n (take k rest)) (drop k rest) ∙ ap₂ ◌++◌ (tabulate_ext n g _ same) kept)
      ∙ sym (append_assoc (tabulate a f) (tabulate n (λ j. f (a + j))) (drop (a + n) l₀))
      ∙ ap (λ x. x ++ drop (a + n) l₀) (sym (tabulate_append a n f))
