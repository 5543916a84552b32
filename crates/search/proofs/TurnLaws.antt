-- Wrapped costs are in the right order: what is stored is the best cost, modulo the width, and the gaps tell the decisions, as long as
-- the costs of the states lie closer together than half the width. Assumes nothing.
use Rattle.std.proofs.Common.{◌≡◌, ℕ, zero, suc, ◌+◌, ◌-◌, ◌*◌, ◌<◌, ◌≤◌, Bool, true, false, eqb, ltb, leb, List, get_or, refl, ap, ◌∙◌, arith, ltb-false, ltb-true, le-ltb, lt-ltb, le-leb}
use borrow.Author.Tests.{lt-leb}
use Rattle.laws.specs.Lists.{choose}
use Rattle.trellis.specs.Passes.{via, before, candidate, decision, best, choice}
use Rattle.trellis.proofs.StepLaws.{best_choice, best_step}
use Rattle.trellis.proofs.SpreadLaws.{spread_within}
use Rattle.search.specs.Stored.{width, half, start, wrapped, Near, gap, top, lesser, way, gap_at, cost_at, above, Stored}

module _ (a b x y : ℕ) (near : Near a b x y) where
  gap_up : a ≤ b → gap x y ≡ b - a
  unfolding gap
  gap_up h = omega (arith, near.stored_a, near.stored_b, near.not_above)

  gap_down : b < a → gap x y ≡ width - (a - b)
  unfolding gap
  gap_down h = omega (arith, near.stored_a, near.stored_b, near.not_below)

  -- the gap's top bit tells which is less
  pub top_tells : top (gap x y) ≡ choose (ltb b a) 1 0
  unfolding top
  top_tells = go (ltb b a) refl
    where
      bit : Bool → ℕ
      bit z = choose z 0 1

      go : (z : Bool) → ltb b a ≡ z → bit (ltb (gap x y) half) ≡ choose z 1 0
      go true e = let h : b < a = ltb-true b a e in ap bit (le-ltb (gap x y) half (omega (arith, gap_down h, near.not_below)))
      go false e = let h : a ≤ b = ltb-false b a e in ap bit (lt-ltb (gap x y) half (omega (arith, gap_up h, near.not_above)))

  -- and the lesser is stored
  lesser_tells : lesser x (gap x y) ≡ wrapped (choose (ltb b a) b a)
  unfolding lesser
  lesser_tells = go (ltb b a) refl
    where
      go : (z : Bool) → ltb b a ≡ z → choose (ltb (gap x y) half) x (wrapped (x + gap x y)) ≡ wrapped (choose z b a)
      go true e =
          let h : b < a = ltb-true b a e in
          let g : gap x y ≡ width - (a - b) = gap_down h in
          rw (le-ltb (gap x y) half (omega (arith, near.not_below)), g) (omega (arith, near.stored_a, near.not_below))
      go false e =
          let h : a ≤ b = ltb-false b a e in
          rw (lt-ltb (gap x y) half (omega (arith, gap_up h, near.not_above))) near.stored_a

  above_0 : above (gap x y) 0 ≡ ltb a b
  unfolding above
  above_0 = go (ltb a b) refl
    where
      go : (z : Bool) → ltb a b ≡ z → choose (ltb 0 (gap x y)) (ltb (gap x y) half) false ≡ z
      go true e =
          let h : a < b = ltb-true a b e in
          let g : gap x y ≡ b - a = gap_up (omega arith) in
          rw (lt-ltb 0 (gap x y) (omega arith), lt-ltb (gap x y) half (omega (arith, near.not_above))) refl
      go false e = same (ltb b a) refl
        where
          same : (z : Bool) → ltb b a ≡ z → choose (ltb 0 (gap x y)) (ltb (gap x y) half) false ≡ false
          same true r =
              let h : b < a = ltb-true b a r in
              let g : gap x y ≡ width - (a - b) = gap_down h in
              rw (lt-ltb 0 (gap x y) (omega (arith, near.not_below)), le-ltb (gap x y) half (omega (arith, near.not_below))) refl
          same false r =
              let g : gap x y ≡ b - a = gap_up (ltb-false b a r) in
              rw (le-ltb 0 (gap x y) (omega (arith, ltb-false a b e))) refl

  above_1 : above (gap x y) 1 ≡ ltb b a
  unfolding above
  above_1 = go (ltb b a) refl
    where
      go : (z : Bool) → ltb b a ≡ z → leb half (gap x y) ≡ z
      go true e = le-leb half (gap x y) (omega (arith, gap_down (ltb-true b a e), near.not_below, ltb-true b a e))
      go false e = lt-leb half (gap x y) (omega (arith, gap_up (ltb-false b a e), near.not_above))

-- the number near the total that is stored so: half the width is added and taken off again
pub nearest_is : (total x low stored m up : ℕ) → Near total x low stored → m ≡ wrapped (stored + (width - low)) → up ≡ wrapped (m + half)
    → total + up ≡ x + half
nearest_is total x low stored m up near em eu =
    omega (arith, near.stored_a, near.stored_b, near.not_below, near.not_above)

-- before the first step
pub turn_none : (b : ℕ → ℕ → ℕ) (costs : List ℕ) → Stored (λ s. choose (eqb s 0) 0 start) costs → Stored (λ s. wrapped (best b start 0 s)) costs
unfolding best
turn_none b costs started = record { all = started.all; at = λ s h. started.at s h ∙ small (eqb s 0) }
  where
    small : (z : Bool) → choose z 0 start ≡ wrapped (choose z 0 start)
    small true = refl
    small false = refl

-- a step moves the cost of state 0 by less than half the width
pub turn_near : (b : ℕ → ℕ → ℕ) (M : ℕ) → ((t r : ℕ) → b t r ≤ M) → start + 7 * M < half → (t stored : ℕ)
    → stored ≡ wrapped (best b start (suc t) 0) → Near (best b start t 0) (best b start (suc t) 0) (wrapped (best b start t 0)) stored
turn_near b M most room t stored e =
    let d = choice b start t 0 in
    record {
      stored_a = refl;
      stored_b = e;
      not_below = omega (arith, best_choice b start t 0, spread_within b start M most t 0 (before 0 d) (omega arith) (omega arith));
      not_above = omega (arith, best_step b start t 0 0 (omega arith), most t (via 0 0));
    }

module _ (b : ℕ → ℕ → ℕ) (M : ℕ) (most : (t r : ℕ) → b t r ≤ M) (room : start + 7 * M < half) (t : ℕ) (old : List ℕ) (b' : ℕ → ℕ)
    (same : (r : ℕ) → b' r ≡ b t r) (held : Stored (λ s. wrapped (best b start t s)) old) where
  abbrev cand : ℕ → ℕ → ℕ
  cand s d = candidate (best b start t) (b t) s d

  way_stored : (s d : ℕ) → way old b' s d ≡ wrapped (cand s d)
  unfolding way candidate
  way_stored s d = rw (held.at (before s d) (omega arith), same (via s d)) (omega arith)

  -- the candidates of a state are near each other
  near : (s : ℕ) → Near (cand s 0) (cand s 1) (way old b' s 0) (way old b' s 1)
  unfolding candidate
  near s =
      let up = spread_within b start M most t (before s 0) (before s 1) (omega arith) (omega arith) in
      let down = spread_within b start M most t (before s 1) (before s 0) (omega arith) (omega arith) in
      record {
        stored_a = way_stored s 0;
        stored_b = way_stored s 1;
        not_below = omega (arith, up, most t (via s 0));
        not_above = omega (arith, down, most t (via s 1));
      }

  -- the next costs
  pub turn_costs : (costs : List ℕ) → Stored (cost_at old b') costs → Stored (λ s. wrapped (best b start (suc t) s)) costs
  unfolding best decision cost_at gap_at
  turn_costs costs stored = record {
    all = stored.all;
    at = λ s h. stored.at s h ∙ lesser_tells _ _ _ _ (near s) ∙ ap wrapped (chosen s (ltb (cand s 1) (cand s 0)));
  }
    where
      chosen : (s : ℕ) (z : Bool) → choose z (cand s 1) (cand s 0) ≡ cand s (choose z 1 0)
      chosen s true = refl
      chosen s false = refl

  -- the decisions
  pub turn_word : (s : ℕ) → top (gap_at old b' s) ≡ choice b start t s
  unfolding choice decision gap_at
  turn_word s = top_tells _ _ _ _ (near s)

  -- and whether the other way into a state is strictly above
  pub turn_above : (gaps : List ℕ) → Stored (gap_at old b') gaps → (s d : ℕ) → s < 64 → d < 2 → above (get_or gaps s 0) d ≡ ltb (cand s d) (cand s (1 - d))
  unfolding gap_at
  turn_above gaps stored s zero h hd = ap (λ g. above g 0) (stored.at s h) ∙ above_0 _ _ _ _ (near s)
  turn_above gaps stored s (suc zero) h hd = ap (λ g. above g 1) (stored.at s h) ∙ above_1 _ _ _ _ (near s)
  turn_above gaps stored s (suc (suc d)) h hd = absurd (omega arith)
