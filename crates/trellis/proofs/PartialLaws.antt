-- Partial trains: the cost of a state that some partial train leads into is the least cost of such a train.
-- Assumes nothing.
use mathlib.Core.Path.{◌≡◌, refl, ◌∙◌}
use mathlib.Core.Bool.{Bool, true, false}
use mathlib.Core.List.{List}
use Prim.Native.Nat.{ℕ, zero, suc, ◌+◌, ◌*◌, ◌≤◌, ◌<◌}
use native.Mathlib.Nat.{suc-mul, mul-le-mul_right}
use native.Mathlib.Omega.{arith}
use lib.Dec.{ltb}
use borrow.Author.Tests.{ltb-true, ltb-false}
use Rattle.laws.specs.Sums.{total}
use Rattle.coder.specs.Encoder.{tailed}
use Rattle.coder.specs.Register.{register}
use Rattle.coder.proofs.TrainLaws.{tailed_bits}
use Rattle.trellis.specs.Passes.{best, survivor}
use Rattle.trellis.specs.Partial.{state, partial_cost, Leads}
use Rattle.trellis.proofs.PathLaws.{origin, survivor_length, survivor_bits, survivor_cost}
use Rattle.trellis.proofs.TrackLaws.{state_low, best_inputs}
use Rattle.trellis.proofs.SpreadLaws.{spread_later}
use Rattle.trellis.proofs.JoinLaws.{Joined, joined, joined_cost}
use Rattle.trellis.proofs.DecodedLaws.{cheap_origin, survivor_origin}

pub leads_low : {N t s : ℕ} {w : List ℕ} → Leads N t s w → s < 64
leads_low {N} {t} {s} {w} leads = rw leads.there at (state_low (tailed w) (tailed_bits leads.train) t)

-- no partial train into a state costs less than the best way
pub reached_least : (b : ℕ → ℕ → ℕ) (P : ℕ) {N t s : ℕ} {w : List ℕ} → Leads N t s w → best b P t s ≤ partial_cost b (tailed w) t
reached_least b P {N} {t} {s} {w} leads = rw leads.there at (best_inputs b P (tailed w) (tailed_bits leads.train) t)

-- a partial train of N bits into state s in t steps, of cost c
pub record Attained (b : ℕ → ℕ → ℕ) (N t s c : ℕ) : Type 0 where
  pub inputs : List ℕ
  pub leads : Leads N t s inputs
  pub cost : partial_cost b (tailed inputs) t ≡ c

module _ (b : ℕ → ℕ → ℕ) (P M : ℕ) (most : (t r : ℕ) → b t r ≤ M) where
  partial_most : (w : List ℕ) (t : ℕ) → partial_cost b w t ≤ t * M
  unfolding partial_cost total
  partial_most w zero = omega arith
  partial_most w (suc t) = rw suc-mul (omega (arith, partial_most w t, most t (register w (suc t))))

  -- six steps cost 6 M at most
  pub early_most : (w : List ℕ) (t : ℕ) → t ≤ 6 → partial_cost b w t ≤ 6 * M
  early_most w t early = omega (arith, partial_most w t, mul-le-mul_right M early)

  -- states that partial trains lead into lie within 6 M at every step
  pub spread_reached : {N t s s' : ℕ} {w w' : List ℕ} → Leads N t s w → Leads N t s' w' → best b P t s ≤ best b P t s' + 6 * M
  spread_reached {N} {t} {s} {s'} {w} {w'} leads leads' = go (ltb t 6) refl
    where
      go : (x : Bool) → ltb t 6 ≡ x → best b P t s ≤ best b P t s' + 6 * M
      go true e = omega (arith, reached_least b P leads, early_most (tailed w) t (omega (arith, ltb-true t 6 e)))
      go false e = spread_later b P M most t s s' (ltb-false t 6 e) (leads_low leads) (leads_low leads')

  module _ (far : 6 * M < P) where
    -- a survivor started in state 0: from the sixth step on always, and before if it is cheap
    pub survivor_home : (t s : ℕ) → s < 64 → (t < 6 → best b P t s ≤ 6 * M) → origin s (survivor b P t s) ≡ 0
    survivor_home t s h cheap = go (ltb t 6) refl
      where
        go : (x : Bool) → ltb t 6 ≡ x → origin s (survivor b P t s) ≡ 0
        go true e = cheap_origin b P M most far t s (omega (arith, cheap (ltb-true t 6 e)))
        go false e = survivor_origin b P M most far t s (ltb-false t 6 e) h

    -- and some partial train costs what the best way does
    pub reached_attained : {N t s : ℕ} {w : List ℕ} → Leads N t s w → Attained b N t s (best b P t s)
    reached_attained {N} {t} {s} {w} leads =
        made (joined leads.train leads.within (survivor b P t s) (survivor_bits b P t s) (survivor_length b P t s) home)
      where
        cheap : t < 6 → best b P t s ≤ 6 * M
        cheap early = omega (arith, reached_least b P leads, early_most (tailed w) t (omega arith))

        home : origin (state (tailed w) t) (survivor b P t s) ≡ 0
        home = rw leads.there (survivor_home t s (leads_low leads) cheap)

        made : Joined N t w (survivor b P t s) → Attained b N t s (best b P t s)
        made j = record {
          inputs = j.inputs;
          leads = record { train = j.train; within = leads.within; there = j.there ∙ leads.there };
          cost = joined_cost b P j ∙ rw (leads.there, survivor_cost b P t s);
        }
