-- The first pass: after t steps the stored costs are the best ones, the total is that of state 0 and the words hold the choices.
-- Assumes nothing.
use Rattle.std.proofs.Common.{◌≡◌, ℕ, suc, ◌+◌, ◌*◌, ◌<◌, ◌≤◌, eqb, List, length, get_or, set, sym, refl, ◌∙◌, mul-le-mul_right, add-one, arith, length-set}
use Rattle.laws.specs.Lists.{choose, filled}
use Rattle.laws.specs.Packing.{packed}
use Rattle.laws.proofs.ListLaws.{filled_none, filled_put}
use Rattle.laws.proofs.PackingLaws.{packed_ext}
use Rattle.coder.specs.Register.{parity, mask_x, mask_y}
use Rattle.trellis.specs.Heard.{branch}
use Rattle.trellis.specs.Passes.{best, choice}
use Rattle.trellis.proofs.SpreadLaws.{best_most}
use Rattle.search.specs.Stored.{half, start, wrapped, Near, top, paired, gap_at, cost_at, Stored}
use Rattle.search.specs.Bytes.{byte_cost, cost_of, Costs}
use Rattle.search.specs.Words.{seat}
use Rattle.search.proofs.ByteLaws.{cost_most, branch_heard}
use Rattle.search.proofs.TurnLaws.{turn_none, turn_near, turn_costs, turn_word}

-- the costs of the first pass
abbrev pub first : List ℕ → ℕ → ℕ → ℕ
first heard = branch (cost_of heard)

-- a step costs at most twice what a bit does
pub first_within : (heard : List ℕ) (B : ℕ) → ((m bit : ℕ) → cost_of heard m bit ≤ B) → (t r : ℕ) → first heard t r ≤ 2 * B
unfolding branch
first_within heard B low t r = omega (arith, low (2 * t) (parity r mask_x), low (2 * t + 1) (parity r mask_y))

pub first_most : (heard : List ℕ) → ((m : ℕ) → get_or heard m 0 < 256) → (t r : ℕ) → first heard t r ≤ 254
first_most heard bytes = first_within heard 127 (cost_most heard bytes)

-- t steps are done
pub record Forward (n : ℕ) (heard words₀ words costs : List ℕ) (total t : ℕ) : Type 0 where
  pub counted : t ≤ n + 6
  pub range : n ≤ 3472
  pub room : n + 6 ≤ length words₀
  pub bytes : (m : ℕ) → get_or heard m 0 < 256
  pub held : Stored (λ s. wrapped (best (first heard) start t s)) costs
  pub exact : total ≡ best (first heard) start t 0
  pub decided : words ≡ filled t (λ k. packed 64 (λ p. choice (first heard) start k (seat p))) words₀
  pub long : length words ≡ length words₀

pub forward_start : (n : ℕ) (heard words costs : List ℕ) → n ≤ 3472 → n + 6 ≤ length words → ((m : ℕ) → get_or heard m 0 < 256)
    → Stored (λ s. choose (eqb s 0) 0 start) costs → Forward n heard words words costs 0 0
unfolding best
forward_start n heard words costs range room bytes started = record {
  counted = omega arith;
  range = range;
  room = room;
  bytes = bytes;
  held = turn_none (first heard) costs started;
  exact = refl;
  decided = sym (filled_none _ words);
  long = refl;
}

module _ (n : ℕ) (heard words₀ : List ℕ) where
  -- the total is far below what 32 bits hold
  pub forward_low : (words costs : List ℕ) (total t : ℕ) → Forward n heard words₀ words costs total t → total ≤ 4294901760
  forward_low words costs total t f =
      omega (arith, f.counted, f.range, f.exact, best_most (first heard) start 254 (first_most heard f.bytes) t, mul-le-mul_right 254 f.counted)

  module _ (words costs : List ℕ) (total t x0 x1 y0 y1 : ℕ) (costs' : List ℕ) (f : Forward n heard words₀ words costs total t)
      (pair : Costs (byte_cost (get_or heard (2 * t) 0)) (byte_cost (get_or heard (2 * t + 1) 0)) x0 x1 y0 y1)
      (stored : Stored (cost_at costs (paired x0 x1 y0 y1)) costs') where
    abbrev most : (k r : ℕ) → first heard k r ≤ 254
    most = first_most heard f.bytes

    tight : start + 7 * 254 < half
    tight = omega arith

    next : Stored (λ s. wrapped (best (first heard) start (suc t) s)) costs'
    next = turn_costs (first heard) 254 most tight t costs (paired x0 x1 y0 y1) (branch_heard heard t x0 x1 y0 y1 pair) f.held costs' stored

    -- the new cost of state 0 is near the total
    pub forward_near : Near total (best (first heard) start (suc t) 0) (wrapped total) (get_or costs' 0 0)
    forward_near = rw f.exact (turn_near (first heard) 254 most tight t _ (next.at 0 (omega arith)))

    pub forward_again : (total' word : ℕ) → t < n + 6
        → total' ≡ best (first heard) start (suc t) 0
        → word ≡ packed 64 (λ p. top (gap_at costs (paired x0 x1 y0 y1) (seat p)))
        → Forward n heard words₀ (set words t word) costs' total' (t + 1)
    forward_again total' word more moved ew =
        let same = branch_heard heard t x0 x1 y0 y1 pair in
        let bits = turn_word (first heard) 254 most tight t costs (paired x0 x1 y0 y1) same f.held in
        let is_word : word ≡ packed 64 (λ p. choice (first heard) start t (seat p)) = ew ∙ packed_ext 64 _ _ (λ p h. bits (seat p)) in
        record {
          counted = omega arith;
          range = f.range;
          room = f.room;
          bytes = f.bytes;
          held = rw (add-one t) next;
          exact = rw (add-one t) moved;
          decided = filled_put t (λ k. packed 64 (λ p. choice (first heard) start k (seat p))) words₀ words word f.decided is_word (omega (arith, f.room));
          long = simp length-set f.long;
        }

  module _ (words costs : List ℕ) (total t : ℕ) (f : Forward n heard words₀ words costs total t) (h : n + 6 ≤ t) where
    all_done : t ≡ n + 6
    all_done = omega (arith, f.counted)

    pub forward_cost : total ≡ best (first heard) start (n + 6) 0
    forward_cost = rw all_done at f.exact

    pub forward_words : words ≡ filled (n + 6) (λ k. packed 64 (λ p. choice (first heard) start k (seat p))) words₀
    forward_words = rw all_done at f.decided
