-- The coder over some of the inputs: what holds before a step holds after it; and the two parts of a train, before the scrambler's first bit and
-- from it on.
-- Assumes nothing.
use mathlib.Core.Path.{◌≡◌, refl, sym, ◌∙◌, ap}
use mathlib.Core.List.{List}
use Prim.Native.Nat.{ℕ, zero, suc, ◌+◌, ◌-◌, ◌*◌, ◌%◌, ◌≤◌, ◌<◌}
use native.Mathlib.Numerals.{add-one}
use native.Mathlib.Omega.{arith}
use lib.Dec.{ltb}
use lib.ListN.{length, get_or, set, length-set}
use borrow.Author.Tests.{lt-ltb}
use Rattle.laws.specs.Lists.{choose, filled}
use Rattle.laws.proofs.ListLaws.{filled_none, filled_pair}
use Rattle.coder.specs.Scrambler.{bit_of, output, shifted, shifted_by, state, mask, masked_bit}
use Rattle.coder.specs.Register.{entered, register, parity, mask_x, mask_y}
use Rattle.coder.specs.Train.{inputs_of, coded_bit, CodesOn}
use Rattle.coder.proofs.EncoderLaws.{coded_x, coded_y}
use Rattle.coder.proofs.ScramblerLaws.{mask_behind}
use Rattle.coder.proofs.TrainLaws.{input_at, input_bits}

-- the inputs from `from` up to t are coded: the scrambler's state, the register, and the pairs in the buffer
pub record Coding (N : ℕ) (octets : List ℕ) (from s₀ r₀ : ℕ) (l₀ l : List ℕ) (s r t : ℕ) : Type 0 where
  pub begun : from ≤ t
  pub scrambler : s ≡ shifted_by (t - from) s₀
  pub codes : CodesOn N octets from t s₀ r₀ r l₀ l
  pub long : length l ≡ length l₀

pub coding_start : (N : ℕ) (octets l : List ℕ) (from s r : ℕ) → Coding N octets from s r l l s r from
unfolding shifted_by CodesOn
coding_start N octets l from s r =
    let none : from - from ≡ 0 = omega arith in
    record { begun = omega arith; scrambler = rw none refl; codes = λ first counter l₀ room gives er el. (er, el); long = refl }

module _ (N : ℕ) (octets : List ℕ) (from s₀ r₀ : ℕ) (l₀ : List ℕ) where
  -- one pair more
  codes_again : (l l' : List ℕ) (s r r' t bit : ℕ) → from ≤ t → s ≡ shifted_by (t - from) s₀
      → CodesOn N octets from t s₀ r₀ r l₀ l
      → bit ≡ choose (ltb t N) ((bit_of octets t + output s) % 2) 0
      → r' ≡ entered r bit
      → l' ≡ set (set l (2 * t) (parity r' mask_x)) (2 * t + 1) (parity r' mask_y)
      → CodesOn N octets from (t + 1) s₀ r₀ r' l₀ l'
  unfolding CodesOn register masked_bit coded_bit
  codes_again l l' s r r' t bit begun es codes eb er el first counter b₀ room gives before front =
      let w = inputs_of first counter N octets in
      let (is_r, is_l) = codes first counter b₀ (omega arith) (λ j h. gives j (omega arith)) before front in
      let at : from + (t - from) ≡ t = omega arith in
      let is_mask : output s ≡ mask first counter t = ap output es ∙ gives (t - from) (omega arith) ∙ ap (mask first counter) at in
      let is_input : bit ≡ get_or w t 0 = eb ∙ ap (λ (x : ℕ). choose (ltb t N) ((bit_of octets t + x) % 2) 0) is_mask ∙ sym (input_at first counter N octets t) in
      let is_register : r' ≡ register w (suc t) = er ∙ ap (λ (x : ℕ). entered x bit) is_r ∙ ap (entered (register w t)) is_input in
      let x : parity r' mask_x ≡ coded_bit first counter N octets (2 * t) = ap (λ (x : ℕ). parity x mask_x) is_register ∙ sym (coded_x w (input_bits first counter N octets) t) in
      let y : parity r' mask_y ≡ coded_bit first counter N octets (2 * t + 1) = ap (λ (x : ℕ). parity x mask_y) is_register ∙ sym (coded_y w (input_bits first counter N octets) t) in
      (rw (add-one t) is_register, rw (el, is_l, x, y) (filled_pair t (coded_bit first counter N octets) b₀ (omega arith)))

  pub coding_again : (l l' : List ℕ) (s s' r r' t bit : ℕ)
      → Coding N octets from s₀ r₀ l₀ l s r t
      → bit ≡ choose (ltb t N) ((bit_of octets t + output s) % 2) 0
      → s' ≡ shifted s
      → r' ≡ entered r bit
      → l' ≡ set (set l (2 * t) (parity r' mask_x)) (2 * t + 1) (parity r' mask_y)
      → Coding N octets from s₀ r₀ l₀ l' s' r' (t + 1)
  coding_again l l' s s' r r' t bit c eb es er el =
      let begun = c.begun in
      let up : t + 1 - from ≡ suc (t - from) = omega arith in
      record {
        begun = omega arith;
        scrambler = rw up (es ∙ ap shifted c.scrambler ∙ (unfold shifted_by in refl));
        codes = codes_again l l' s r r' t bit begun c.scrambler c.codes eb er el;
        long = rw el (simp length-set c.long);
      }

-- a scrambler of zeros gives zeros, which are the masks before the first bit
zeros_stay : (j : ℕ) → shifted_by j 0 ≡ 0
unfolding shifted_by
zeros_stay zero = refl
zeros_stay (suc j) = rw (zeros_stay j) refl

plain_masks : (first counter j : ℕ) → 0 + j < first → output (shifted_by j 0) ≡ mask first counter (0 + j)
unfolding mask
plain_masks first counter j h = let at : 0 + j ≡ j = omega arith in rw (zeros_stay j, at, lt-ltb j first (omega arith)) refl

-- from its start on it gives the others
started : (counter j : ℕ) → shifted_by j (112 + counter) ≡ state counter j
unfolding shifted_by state
started counter zero = refl
started counter (suc j) = ap shifted (started counter j)

other_masks : (first counter j : ℕ) → output (shifted_by j (112 + counter)) ≡ mask first counter (first + j)
other_masks first counter j = ap output (started counter j) ∙ sym (mask_behind first counter j)

-- the two parts, one after the other, are the whole
pub coded_both : (first counter N : ℕ) (octets l l₁ l₂ : List ℕ) (r₁ r₂ : ℕ) → first ≤ N → 2 * (N + 6) ≤ length l
    → CodesOn N octets 0 first 0 0 r₁ l l₁ → CodesOn N octets first (N + 6) (112 + counter) r₁ r₂ l₁ l₂
    → l₂ ≡ filled (2 * (N + 6)) (coded_bit first counter N octets) l
unfolding CodesOn register
coded_both first counter N octets l l₁ l₂ r₁ r₂ inside room before after =
    let (is_r, is_l) = before first counter l (omega arith) (plain_masks first counter) refl (sym (filled_none (coded_bit first counter N octets) l)) in
    (after first counter l (omega arith) (λ j h. other_masks first counter j) is_r is_l).1
