-- One step on stored costs: masks choose a branch cost, one branch cost and its complement serve four ways, and a step's entries
-- come two at a time. Assumes nothing.
use Rattle.std.proofs.Common.{◌≡◌, ℕ, zero, suc, ◌+◌, ◌-◌, ◌*◌, ◌<◌, ◌≤◌, Bool, true, false, T, eqb, List, [], length, get_or, sym, refl, ap, ◌∙◌, ap₂, arith, eqb→eq}
use lib.Count.{ones, ones_in}
use Rattle.laws.specs.Lists.{choose}
use Rattle.laws.proofs.Tables.{below, below_at, strays, table_rule, both, both_left, both_right}
use Rattle.coder.specs.Register.{parity, mask_x, mask_y}
use Rattle.trellis.specs.Passes.{via, before}
use Rattle.search.specs.Stored.{width, wrapped, gap, lesser, paired, way, gap_at, cost_at, Crossed, Entered, Small, mask_at, Stored}

-- a list that is written out
pub stored_by : (f : ℕ → ℕ) (l : List ℕ) → length l ≡ 64 → strays f 0 l ≡ [] → Stored f l
stored_by f l all none = record { all = all; at = λ s h. table_rule f l none s (rw all h) }

pub mask_is : (p : ℕ) → p < 2 → wrapped (0 + (width - p)) ≡ choose (eqb p 0) 0 (width - 1)
mask_is zero h = refl
mask_is (suc zero) h = refl
mask_is (suc (suc p)) h = absurd (omega arith)

-- what x is by a mask that is no ones or all ones
abbrev pub Masked : ℕ → ℕ → ℕ → ℕ → Type 0
Masked c0 c1 mask x = (mask ≡ 0 → x ≡ c0) × (mask ≡ width - 1 → x ≡ c1)

-- the mask of a register chooses the cost of its coded bit
masked_by : (taps c0 c1 mask r x : ℕ) → Masked c0 c1 mask x → mask ≡ mask_at taps r → x ≡ choose (eqb (parity r taps) 0) c0 c1
unfolding mask_at
masked_by taps c0 c1 mask r x by e = go (eqb (parity r taps) 0) e
  where
    go : (z : Bool) → mask ≡ choose z 0 (width - 1) → x ≡ choose z c0 c1
    go true m = by.0 m
    go false m = by.1 m

choose_most : (z : Bool) (c0 c1 m : ℕ) → c0 ≤ m → c1 ≤ m → choose z c0 c1 ≤ m
choose_most true c0 c1 m h0 h1 = h0
choose_most false c0 c1 m h0 h1 = h1

pub paired_most : (x0 x1 y0 y1 : ℕ) → Small x0 x1 y0 y1 → (r : ℕ) → paired x0 x1 y0 y1 r ≤ 510
unfolding paired
paired_most x0 x1 y0 y1 small r =
    omega (
      arith,
      choose_most (eqb (parity r mask_x) 0) x0 x1 255 small.small_x0 small.small_x1,
      choose_most (eqb (parity r mask_y) 0) y0 y1 255 small.small_y0 small.small_y1,
    )

pub branch_by : (x0 x1 y0 y1 x_mask y_mask x y a : ℕ) → Small x0 x1 y0 y1 → Masked x0 x1 x_mask x → Masked y0 y1 y_mask y → a ≡ wrapped (x + y)
    → (r : ℕ) → x_mask ≡ mask_at mask_x r → y_mask ≡ mask_at mask_y r → a ≡ paired x0 x1 y0 y1 r
branch_by x0 x1 y0 y1 x_mask y_mask x y a small by_x by_y e r ex ey =
    let sum : x + y ≡ paired x0 x1 y0 y1 r = unfold paired in ap₂ ◌+◌ (masked_by mask_x x0 x1 x_mask r x by_x ex) (masked_by mask_y y0 y1 y_mask r y by_y ey) in
    omega (arith, paired_most x0 x1 y0 y1 small r)

-- both polynomials have lags 0 and 6: either turns the coded bit over, and both together leave it
abbrev crossing : ℕ → ℕ → Bool
crossing taps j =
    both (eqb (parity (2 * j + 1) taps) (1 - parity (2 * j) taps))
    (both (eqb (parity (2 * j + 64) taps) (1 - parity (2 * j) taps)) (eqb (parity (2 * j + 65) taps) (parity (2 * j) taps)))

pub record Turns (taps j : ℕ) : Type 0 where
  pub oldest : parity (2 * j + 1) taps ≡ 1 - parity (2 * j) taps
  pub newest : parity (2 * j + 64) taps ≡ 1 - parity (2 * j) taps
  pub both_ends : parity (2 * j + 65) taps ≡ parity (2 * j) taps

turns : (taps : ℕ) → T (below (crossing taps) 32) → (j : ℕ) → j < 32 → Turns taps j
turns taps t j h =
    let all = below_at (crossing taps) 32 t j h in
    let o = eqb (parity (2 * j + 1) taps) (1 - parity (2 * j) taps) in
    let n = eqb (parity (2 * j + 64) taps) (1 - parity (2 * j) taps) in
    let e = eqb (parity (2 * j + 65) taps) (parity (2 * j) taps) in
    record {
      oldest = eqb→eq _ _ (both_left o (both n e) all);
      newest = eqb→eq _ _ (both_left n e (both_right o (both n e) all));
      both_ends = eqb→eq _ _ (both_right n e (both_right o (both n e) all));
    }

turns_x : (j : ℕ) → j < 32 → Turns mask_x j
unfolding ones ones_in
turns_x = turns mask_x tt

turns_y : (j : ℕ) → j < 32 → Turns mask_y j
unfolding ones ones_in
turns_y = turns mask_y tt

turned_over : (p c0 c1 : ℕ) → p < 2 → choose (eqb (1 - p) 0) c0 c1 + choose (eqb p 0) c0 c1 ≡ c0 + c1
turned_over zero c0 c1 h = omega arith
turned_over (suc zero) c0 c1 h = omega arith
turned_over (suc (suc p)) c0 c1 h = absurd (omega arith)

module _ (x0 x1 y0 y1 j : ℕ) (h : j < 32) where
  abbrev cost : ℕ → ℕ
  cost = paired x0 x1 y0 y1

  paired_oldest : cost (2 * j + 1) + cost (2 * j) ≡ x0 + x1 + y0 + y1
  unfolding paired
  paired_oldest =
      rw ((turns_x j h).oldest, (turns_y j h).oldest)
      (omega (arith, turned_over (parity (2 * j) mask_x) x0 x1 (omega arith), turned_over (parity (2 * j) mask_y) y0 y1 (omega arith)))

  paired_newest : cost (2 * j + 64) + cost (2 * j) ≡ x0 + x1 + y0 + y1
  unfolding paired
  paired_newest =
      rw ((turns_x j h).newest, (turns_y j h).newest)
      (omega (arith, turned_over (parity (2 * j) mask_x) x0 x1 (omega arith), turned_over (parity (2 * j) mask_y) y0 y1 (omega arith)))

  paired_both : cost (2 * j + 65) ≡ cost (2 * j)
  unfolding paired
  paired_both = rw ((turns_x j h).both_ends, (turns_y j h).both_ends) refl

-- X has no lag 1: its mask is the same for the state that is sixteen further on
abbrev same_x : ℕ → Bool
same_x j = eqb (parity (2 * j) mask_x) (parity (2 * (j + 16)) mask_x)

pub mask_x_lem : (j : ℕ) → j < 16 → mask_at mask_x (2 * j) ≡ mask_at mask_x (2 * (j + 16))
unfolding mask_at ones ones_in
mask_x_lem j h =
    let same : parity (2 * j) mask_x ≡ parity (2 * (j + 16)) mask_x = eqb→eq _ _ (below_at same_x 16 tt j h) in
    ap (λ (p : ℕ). choose (eqb p 0) 0 (width - 1)) same

-- a way by the state before and the branch cost
way_is : (old : List ℕ) (b : ℕ → ℕ) (s d from r a : ℕ) → before s d ≡ from → via s d ≡ r → b r ≡ a → way old b s d ≡ wrapped (get_or old from 0 + a)
unfolding way
way_is old b s d from r a e_from e_r e_a = ap₂ (λ q x. wrapped (get_or old q 0 + x)) e_from (ap b e_r ∙ e_a)

-- the ways into the states j and j + 32 cross: from 2 j and 2 j + 1, over one branch cost and its complement
module _ (old : List ℕ) (x0 x1 y0 y1 j even odd : ℕ) (small : Small x0 x1 y0 y1) (h : j < 32) (is_even : 2 * j ≡ even) (is_odd : 2 * j + 1 ≡ odd) where
  abbrev p : ℕ → ℕ
  p = paired x0 x1 y0 y1

  module _ (a b : ℕ) (ea : a ≡ p (2 * j)) (eb : b ≡ wrapped (x0 + x1 + y0 + y1 + (width - a))) where
    complement : (c : ℕ) → c + p (2 * j) ≡ x0 + x1 + y0 + y1 → c ≡ b
    complement c e = omega (arith, small.small_x0, small.small_x1, small.small_y0, small.small_y1)

    way_low_0 : way old p j 0 ≡ wrapped (get_or old even 0 + a)
    way_low_0 = way_is old p j 0 even (2 * j) a (omega arith) (omega arith) (sym ea)

    way_low_1 : way old p j 1 ≡ wrapped (get_or old odd 0 + b)
    way_low_1 = way_is old p j 1 odd (2 * j + 1) b (omega arith) refl (complement (p (2 * j + 1)) (paired_oldest x0 x1 y0 y1 j h))

    way_high_0 : way old p (j + 32) 0 ≡ wrapped (get_or old even 0 + b)
    way_high_0 = way_is old p (j + 32) 0 even (2 * j + 64) b (omega arith) (omega arith) (complement (p (2 * j + 64)) (paired_newest x0 x1 y0 y1 j h))

    way_high_1 : way old p (j + 32) 1 ≡ wrapped (get_or old odd 0 + a)
    way_high_1 = way_is old p (j + 32) 1 odd (2 * j + 65) a (omega arith) (omega arith) (paired_both x0 x1 y0 y1 j h ∙ sym ea)

    pub entered : (low low_gap high high_gap : ℕ) → Crossed (get_or old even 0) (get_or old odd 0) a b low low_gap high high_gap
        → Entered old p j low low_gap high high_gap
    unfolding gap_at cost_at
    entered low low_gap high high_gap c =
        let g_low : low_gap ≡ gap_at old p j = c.low_by ∙ sym (ap₂ gap way_low_0 way_low_1) in
        let g_high : high_gap ≡ gap_at old p (j + 32) = c.high_by ∙ sym (ap₂ gap way_high_0 way_high_1) in
        record {
          low_is = c.low_is ∙ ap₂ lesser (sym way_low_0) g_low;
          low_by = g_low;
          high_is = c.high_is ∙ ap₂ lesser (sym way_high_0) g_high;
          high_by = g_high;
        }
