-- One step: the best way into a state is the cheaper of two, and of equals the one with oldest bit 0.
-- Assumes nothing.
use mathlib.Core.Path.{◌≡◌, refl}
use mathlib.Core.Bool.{Bool, true, false}
use Prim.Native.Nat.{ℕ, zero, suc, ◌+◌, ◌≤◌, ◌<◌}
use native.Mathlib.Omega.{arith}
use lib.Dec.{ltb}
use borrow.Author.Tests.{ltb-true, ltb-false}
use Rattle.laws.specs.Lists.{choose}
use Rattle.trellis.specs.Passes.{via, before, candidate, decision, best, choice}

module _ (old b : ℕ → ℕ) (s : ℕ) where
  -- the decision is a bit, the way it takes costs no more than either, and it is 1 only where that is strictly cheaper
  pub record Decided (d : ℕ) : Type 0 where
    pub bit : d < 2
    pub least : (e : ℕ) → e < 2 → candidate old b s d ≤ candidate old b s e
    pub tie : d ≡ 1 → candidate old b s 1 < candidate old b s 0

  pub decided : Decided (decision old b s)
  unfolding decision
  decided = go (ltb (candidate old b s 1) (candidate old b s 0)) refl
    where
      either : (x : ℕ) → x ≤ candidate old b s 0 → x ≤ candidate old b s 1 → (e : ℕ) → e < 2 → x ≤ candidate old b s e
      either x h0 h1 zero h = h0
      either x h0 h1 (suc zero) h = h1
      either x h0 h1 (suc (suc e)) h = absurd (omega arith)

      go : (t : Bool) → ltb (candidate old b s 1) (candidate old b s 0) ≡ t → Decided (choose t 1 0)
      go true e =
          let less : candidate old b s 1 < candidate old b s 0 = ltb-true _ _ e in
          record { bit = omega arith; least = either _ (omega arith) (omega arith); tie = λ _. less }
      go false e =
          let more : candidate old b s 0 ≤ candidate old b s 1 = ltb-false _ _ e in
          record { bit = omega arith; least = either _ (omega arith) (omega arith); tie = λ h. absurd (omega arith) }

module _ (b : ℕ → ℕ → ℕ) (P : ℕ) where
  pub choice_bit : (t s : ℕ) → choice b P t s < 2
  unfolding choice
  choice_bit t s = (decided (best b P t) (b t) s).bit

  -- of equals, 0
  pub choice_tie : (t s : ℕ) → choice b P t s ≡ 1 → candidate (best b P t) (b t) s 1 < candidate (best b P t) (b t) s 0
  unfolding choice
  choice_tie t s = (decided (best b P t) (b t) s).tie

  -- the best way comes by the choice
  pub best_choice : (t s : ℕ) → best b P (suc t) s ≡ best b P t (before s (choice b P t s)) + b t (via s (choice b P t s))
  unfolding best candidate choice
  best_choice t s = refl

  -- and costs no more than either way
  pub best_step : (t s d : ℕ) → d < 2 → best b P (suc t) s ≤ best b P t (before s d) + b t (via s d)
  unfolding best candidate
  best_step t s d h = (decided (best b P t) (b t) s).least d h
