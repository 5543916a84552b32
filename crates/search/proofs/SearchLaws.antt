-- The search: the bits on the way back along the words are the train that is wanted.
-- Assumes nothing.
use Rattle.std.proofs.Common.{◌≡◌, ℕ, zero, suc, ◌+◌, ◌-◌, ◌<◌, List, ◌∷◌, get_or, take, sym, refl, ap, ◌∙◌, arith}
use Rattle.laws.specs.Lists.{filled}
use Rattle.laws.specs.Packing.{packed}
use Rattle.laws.proofs.ListLaws.{filled_at, filled_take, filled_drop, filled_over}
use Rattle.laws.proofs.PackingLaws.{packed_bit}
use Rattle.trellis.specs.Passes.{before, best, choice, survivor, decoded}
use Rattle.trellis.proofs.StepLaws.{choice_bit}
use Rattle.trellis.proofs.DecodedLaws.{decoded_cost, decoded_returned}
use Rattle.search.specs.Stored.{start}
use Rattle.search.specs.Bytes.{cost_of}
use Rattle.search.specs.Words.{seat, bit_in}
use Rattle.search.specs.Followed.{followed}
use Rattle.search.specs.Promises.{Searched}
use Rattle.search.proofs.ForwardLaws.{first, first_most}

-- the way back by the choices is the survivor
followed_survivor : (f : ℕ → ℕ → ℕ) (b : ℕ → ℕ → ℕ) (P t s : ℕ) → ((k q : ℕ) → k < t → q < 64 → f k q ≡ choice b P k q) → s < 64
    → followed f t s ≡ survivor b P t s
unfolding followed survivor
followed_survivor f b P zero s same h = refl
followed_survivor f b P (suc t) s same h =
    let e : f t s ≡ choice b P t s = same t s (omega arith) h in
    rw e (ap (λ l. choice b P t s ∷ l)
    (followed_survivor f b P t (before s (choice b P t s)) (λ k q hk. same k q (omega arith)) (omega arith)))

module _ (n : ℕ) (heard before_train before_words : List ℕ) (bytes : (m : ℕ) → get_or heard m 0 < 256) where
  abbrev decisions : List ℕ
  decisions = filled (n + 6) (λ k. packed 64 (λ p. choice (first heard) start k (seat p))) before_words

  bit_choice : (k q : ℕ) → k < n + 6 → q < 64 → bit_in decisions k q ≡ choice (first heard) start k q
  unfolding bit_in
  bit_choice k q h hq =
      let back : seat (seat q) ≡ q = omega arith in
      rw (filled_at (n + 6) (λ k. packed 64 (λ p. choice (first heard) start k (seat p))) before_words k 0 h)
      (packed_bit 64 (λ p. choice (first heard) start k (seat p)) (λ p. choice_bit (first heard) start k (seat p)) (seat q) (omega arith)
      ∙ ap (choice (first heard) start k) back)

  way_back : followed (bit_in decisions) (n + 6) 0 ≡ survivor (first heard) start (n + 6) 0
  way_back = followed_survivor (bit_in decisions) (first heard) start (n + 6) 0 bit_choice (omega arith)

  found : (train middle : List ℕ) → middle ≡ decisions
      → train ≡ filled n (λ k. get_or (followed (bit_in middle) (n + 6) 0) (n - 1 - k) 0) before_train → take n train ≡ decoded (first heard) start n
  unfolding decoded
  found train middle em et = rw (et, em, way_back) (filled_take n (λ k. get_or (survivor (first heard) start (n + 6) 0) (n - 1 - k) 0) before_train)

  pub searched : (train words middle : List ℕ) (cost : ℕ)
      → cost ≡ best (first heard) start (n + 6) 0
      → middle ≡ decisions
      → train ≡ filled n (λ k. get_or (followed (bit_in middle) (n + 6) 0) (n - 1 - k) 0) before_train
      → words ≡ filled (n + 6) (λ t. 0) middle
      → Searched n heard before_train train before_words words cost
  searched train words middle cost ec em et ew =
      let e : take n train ≡ decoded (first heard) start n = found train middle em et in
      record {
        returned = rw e (decoded_returned (cost_of heard) start 254 (first_most heard bytes) (omega arith) n);
        costs = rw e (ec ∙ sym (decoded_cost (cost_of heard) start 254 (first_most heard bytes) (omega arith) n));
        kept = rw et (filled_drop n _ before_train);
        zeroed = rw (ew, em) (filled_over (n + 6) _ _ before_words);
      }
