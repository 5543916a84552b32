-- The way back along the decision words: one turn of the loop, and what is left when it ends.
-- Assumes nothing.
use Rattle.std.proofs.Common.{◌≡◌, ℕ, suc, ◌+◌, ◌-◌, ◌*◌, ◌/◌, ◌%◌, ◌^◌, ◌<◌, ◌≤◌, Bool, true, false, leb, List, length, get_or, set, sym, refl, ap, ◌∙◌, subst, arith, length-set, leb-false, leb-true}
use Rattle.laws.specs.Lists.{choose, filled}
use Rattle.laws.proofs.ListLaws.{after_set, filled_ext}
use Rattle.search.specs.Words.{seat, bit_in}
use Rattle.search.specs.Followed.{followed}

-- the bits of the train that left the register, the last first, with t steps still to go
pub record Trained (n : ℕ) (bits train₀ train : List ℕ) (t : ℕ) : Type 0 where
  pub long : length train ≡ length train₀
  pub found : (k : ℕ) → k < n → t ≤ k + 6 → get_or train k 0 ≡ get_or bits (n - 1 - k) 0
  pub kept : (k : ℕ) → n ≤ k → get_or train k 0 ≡ get_or train₀ k 0

-- the words of the steps that are done are zero
pub record Zeroed (n : ℕ) (words₀ words : List ℕ) (t : ℕ) : Type 0 where
  pub long : length words ≡ length words₀
  pub zero_at : (j : ℕ) → t ≤ j → j < n + 6 → get_or words j 0 ≡ 0
  pub unread : (j : ℕ) → j < t → get_or words j 0 ≡ get_or words₀ j 0
  pub beyond : (j : ℕ) → n + 6 ≤ j → get_or words j 0 ≡ get_or words₀ j 0

-- t steps are still to go, from state s
pub record Following (n : ℕ) (train₀ words₀ train words : List ℕ) (s t : ℕ) : Type 0 where
  pub counted : t ≤ n + 6
  pub state : s < 64
  pub ahead : (i : ℕ) → get_or (followed (bit_in words₀) (n + 6) 0) (n + 6 - t + i) 0 ≡ get_or (followed (bit_in words₀) t s) i 0
  pub trained : Trained n (followed (bit_in words₀) (n + 6) 0) train₀ train t
  pub done : Zeroed n words₀ words t

module _ (n : ℕ) (train₀ words₀ : List ℕ) (train_room : n ≤ length train₀) (words_room : n + 6 ≤ length words₀) where
  trained_again : (bits train : List ℕ) (t bit : ℕ) → t < n + 6 → get_or bits (n + 5 - t) 0 ≡ bit
      → Trained n bits train₀ train (suc t) → Trained n bits train₀ (choose (leb 6 t) (set train (t - 6) bit) train) t
  trained_again bits train t bit more left c = go (leb 6 t) refl
    where
      go : (b : Bool) → leb 6 t ≡ b → Trained n bits train₀ (choose b (set train (t - 6) bit) train) t
      go true b =
          let six : 6 ≤ t = leb-true 6 t b in
          let inside : t - 6 < length train = omega arith in
          record {
            long = simp length-set c.long;
            found = λ k less past.
                after_set train (t - 6) bit k 0 _ inside
                (λ same. let e : n + 5 - t ≡ n - 1 - k = omega arith in sym (rw e at left))
                (λ other. c.found k less (omega arith));
            kept = λ k h. after_set train (t - 6) bit k 0 _ inside (λ same. absurd (omega arith)) (λ other. c.kept k h);
          }
      go false b =
          let early : t < 6 = leb-false 6 t b in
          record { long = c.long; found = λ k less past. c.found k less (omega arith); kept = c.kept }

  zeroed_again : (words : List ℕ) (t : ℕ) → t < n + 6 → Zeroed n words₀ words (suc t) → Zeroed n words₀ (set words t 0) t
  zeroed_again words t more c =
      let inside : t < length words = omega arith in
      record {
        long = simp length-set c.long;
        zero_at = λ j low high. after_set words t 0 j 0 0 inside (λ same. refl) (λ other. c.zero_at j (omega arith) high);
        unread = λ j h. after_set words t 0 j 0 _ inside (λ same. absurd (omega arith)) (λ other. c.unread j (omega arith));
        beyond = λ j h. after_set words t 0 j 0 _ inside (λ same. absurd (omega arith)) (λ other. c.beyond j h);
      }

  turn : (train words : List ℕ) (s t bit : ℕ) → Following n train₀ words₀ train words s (suc t) → bit ≡ get_or words t 0 / 2 ^ seat s % 2
      → Following n train₀ words₀ (choose (leb 6 t) (set train (t - 6) bit) train) (set words t 0) ((2 * s + bit) % 64) t
  unfolding followed bit_in
  turn train words s t bit c read =
      let is_bit : bit ≡ bit_in words₀ t s = read ∙ ap (λ (x : ℕ). x / 2 ^ seat s % 2) (c.done.unread t (omega arith)) in
      let first : n + 6 - suc t + 0 ≡ n + 5 - t = omega arith in
      let left : get_or (followed (bit_in words₀) (n + 6) 0) (n + 5 - t) 0 ≡ bit = (rw first at (c.ahead 0)) ∙ sym is_bit in
      record {
        counted = omega arith;
        state = omega arith;
        ahead = λ i.
            let next : n + 6 - suc t + suc i ≡ n + 6 - t + i = omega arith in
            rw is_bit (rw next at (c.ahead (suc i)));
        trained = trained_again _ train t bit (omega arith) left c.trained;
        done = zeroed_again words t (omega arith) c.done;
      }

  -- a turn: one step back
  pub following_again : (train train' words : List ℕ) (s t bit : ℕ) → Following n train₀ words₀ train words s t → 0 < t
      → bit ≡ get_or words (t - 1) 0 / 2 ^ seat s % 2
      → train' ≡ choose (leb 6 (t - 1)) (set train (t - 1 - 6) bit) train
      → Following n train₀ words₀ train' (set words (t - 1) 0) ((2 * s + bit) % 64) (t - 1)
  following_again train train' words s t bit c more read put =
      let e : t ≡ suc (t - 1) = omega arith in
      rw put (turn train words s (t - 1) bit (subst (λ (u : ℕ). Following n train₀ words₀ train words s u) e c) read)

  -- and when no step is left
  module _ (train words : List ℕ) (s t : ℕ) (c : Following n train₀ words₀ train words s t) (end : t ≤ 0) where
    pub train_found : train ≡ filled n (λ k. get_or (followed (bit_in words₀) (n + 6) 0) (n - 1 - k) 0) train₀
    train_found =
        filled_ext 0 n _ train₀ train c.trained.long train_room
        (λ k less. c.trained.found k less (omega arith))
        (λ k past inside. c.trained.kept k past)

    pub words_zeroed : words ≡ filled (n + 6) (λ j. 0) words₀
    words_zeroed =
        filled_ext 0 (n + 6) _ words₀ words c.done.long words_room
        (λ j less. c.done.zero_at j (omega arith) less)
        (λ j past inside. c.done.beyond j past)
