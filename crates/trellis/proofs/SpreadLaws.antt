-- The costs of the states lie close together: any state leads into any other in six steps.
-- Assumes nothing.
use mathlib.Core.Path.{◌≡◌, refl}
use mathlib.Core.Bool.{Bool, true, false}
use Prim.Native.Nat.{ℕ, zero, suc, ◌+◌, ◌-◌, ◌*◌, ◌/◌, ◌%◌, ◌≤◌, ◌<◌}
use native.Mathlib.Nat.{add-suc, add-zero, suc-mul, mul-le-mul_right}
use native.Mathlib.Numerals.{add_six}
use native.Mathlib.Omega.{arith}
use lib.Dec.{ltb, eqb}
use borrow.Author.Tests.{ltb-true, ltb-false}
use Rattle.laws.specs.Lists.{choose}
use Rattle.trellis.specs.Passes.{via, before, best, choice}
use Rattle.trellis.proofs.StepLaws.{best_choice, best_step}

-- what no state is below, no state is below later
bound_later : (b : ℕ → ℕ → ℕ) (P c t : ℕ) → ((s : ℕ) → s < 64 → c ≤ best b P t s) → (k s : ℕ) → s < 64 → c ≤ best b P (t + k) s
bound_later b P c t bound zero s h = rw add-zero (bound s h)
bound_later b P c t bound (suc k) s h =
    rw add-suc (omega (arith, best_choice b P (t + k) s, bound_later b P c t bound k (before s (choice b P (t + k) s)) (omega arith)))

module _ (b : ℕ → ℕ → ℕ) (P M : ℕ) (most : (t r : ℕ) → b t r ≤ M) where
  -- one step: the five newest bits of s are the five oldest of s'
  hop : (t s s' : ℕ) → s < 64 → s / 2 ≡ s' % 32 → best b P (suc t) s' ≤ best b P t s + M
  hop t s s' h e =
      let from : before s' (s % 2) ≡ s = omega arith in
      omega (arith, rw from at (best_step b P t s' (s % 2) (omega arith)), most t (via s' (s % 2)))

  -- six steps lead from any state into any other
  pub six_steps : (t s s' : ℕ) → s < 64 → s' < 64 → best b P (t + 6) s' ≤ best b P t s + 6 * M
  six_steps t s s' h h' =
      let s₁ : ℕ = s / 2 + 32 * (s' % 2) in
      let s₂ : ℕ = s / 4 + 16 * (s' % 4) in
      let s₃ : ℕ = s / 8 + 8 * (s' % 8) in
      let s₄ : ℕ = s / 16 + 4 * (s' % 16) in
      let s₅ : ℕ = s / 32 + 2 * (s' % 32) in
      rw (add_six t)
      (omega (
        arith,
        hop t s s₁ h (omega arith),
        hop (suc t) s₁ s₂ (omega arith) (omega arith),
        hop (suc (suc t)) s₂ s₃ (omega arith) (omega arith),
        hop (suc (suc (suc t))) s₃ s₄ (omega arith) (omega arith),
        hop (suc (suc (suc (suc t)))) s₄ s₅ (omega arith) (omega arith),
        hop (suc (suc (suc (suc (suc t))))) s₅ s' (omega arith) (omega arith),
      ))

  spread_six : (t s s' : ℕ) → s < 64 → s' < 64 → best b P (t + 6) s ≤ best b P (t + 6) s' + 6 * M
  spread_six t s s' h h' =
      omega (arith, bound_later b P (best b P (t + 6) s - 6 * M) t (λ u low. omega (arith, six_steps t u s low h)) 6 s' h')

  -- from the sixth step on no state costs more than 6 M above another
  pub spread_later : (t s s' : ℕ) → 6 ≤ t → s < 64 → s' < 64 → best b P t s ≤ best b P t s' + 6 * M
  spread_later t s s' late h h' =
      let e : t - 6 + 6 ≡ t = omega arith in
      rw e at (spread_six (t - 6) s s' h h')

  -- staying in state 0
  pub best_most : (t : ℕ) → best b P t 0 ≤ t * M
  unfolding best
  best_most zero = omega arith
  best_most (suc t) = rw suc-mul (omega (arith, hop t 0 0 (omega arith) refl, best_most t))

  -- from any start
  best_any : (t s : ℕ) → best b P t s ≤ P + t * M
  unfolding best
  best_any zero s = go (eqb s 0)
    where
      go : (x : Bool) → choose x 0 P ≤ P + 0 * M
      go true = omega arith
      go false = omega arith
  best_any (suc t) s =
      rw suc-mul (omega (arith, best_step b P t s 0 (omega arith), most t (via s 0), best_any t (before s 0)))

  -- at every step no state costs more than that and P above another
  pub spread_within : (t s s' : ℕ) → s < 64 → s' < 64 → best b P t s ≤ best b P t s' + (P + 6 * M)
  spread_within t s s' h h' = go (ltb t 6) refl
    where
      go : (x : Bool) → ltb t 6 ≡ x → best b P t s ≤ best b P t s' + (P + 6 * M)
      go true e =
          let early : t ≤ 6 = omega (arith, ltb-true t 6 e) in
          omega (arith, best_any t s, mul-le-mul_right M early)
      go false e = omega (arith, spread_later t s s' (ltb-false t 6 e) h h')
