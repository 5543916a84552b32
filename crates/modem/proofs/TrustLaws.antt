-- Exact and rounded costs of two trains: over the bits in which they differ, the one difference is within 32 for each bit of 64 times the other.
-- Assumes nothing.
use mathlib.Core.Path.{◌≡◌, refl, ap}
use mathlib.Core.Bool.{Bool, true, false}
use mathlib.Core.List.{List}
use Prim.Native.Nat.{ℕ, zero, suc, ◌+◌, ◌*◌, ◌≤◌, ◌<◌}
use native.Mathlib.Omega.{arith}
use lib.Dec.{eqb}
use lib.IntN.{ℤ, pos}
use Rattle.laws.specs.Lists.{choose}
use Rattle.laws.specs.Sums.{total}
use Rattle.laws.proofs.ListLaws.{tabulate_at}
use Rattle.laws.proofs.SumLaws.{total_ext}
use Rattle.modes.specs.Pdus.{Pdu, sent_of}
use Rattle.places.specs.Selection.{Selection}
use Rattle.places.specs.Trains.{listed}
use Rattle.coder.specs.Encoder.{coded}
use Rattle.soft.specs.Soft.{rounded, bit_cost}
use Rattle.soft.proofs.CostLaws.{cost_near}
use Rattle.modem.specs.Sent.{sent_by, cost_by, differing_by}
use Rattle.modem.specs.Soften.{list_exact, list_soft, softened}
use Rattle.modem.specs.Costs.{rounded_cost, exact_cost, differing}

-- terms that are near make sums that are near
total_near : (n : ℕ) (e e' r r' d : ℕ → ℕ) → ((k : ℕ) → k < n → e k + 64 * r' k ≤ e' k + 64 * r k + 32 * d k)
    → total n e + 64 * total n r' ≤ total n e' + 64 * total n r + 32 * total n d
unfolding total
total_near zero e e' r r' d each = omega arith
total_near (suc n) e e' r r' d each = omega (arith, total_near n e e' r r' d (λ k h. each k (omega arith)), each n (omega arith))

total_count : (n : ℕ) (d : ℕ → ℕ) → ((k : ℕ) → k < n → d k ≤ 1) → total n d ≤ n
unfolding total
total_count zero d each = omega arith
total_count (suc n) d each = omega (arith, total_count n d (λ k h. each k (omega arith)), each n (omega arith))

at_most_1 : (t : Bool) → choose t 0 1 ≤ 1
at_most_1 true = omega arith
at_most_1 false = omega arith

thirty_two : (t : Bool) → choose t 0 32 ≡ 32 * choose t 0 1
thirty_two true = refl
thirty_two false = refl

-- a sent bit is a bit
pub sent_low : (f : Selection) (w : List ℕ) (q : ℕ) → sent_by f w q < 2
unfolding sent_by coded
sent_low f w q = omega arith

-- over n sent bits of any selection
module _ (f : Selection) (n : ℕ) where
  differing_by_count : (w v : List ℕ) → differing_by f n w v ≤ n
  unfolding differing_by
  differing_by_count w v = total_count n _ (λ q h. at_most_1 (eqb (sent_by f w q) (sent_by f v q)))

  costs_by_near : (s : ℕ → ℤ) (w v : List ℕ)
      → cost_by f n s w + 64 * cost_by f n (λ q. rounded (s q)) v
      ≤ cost_by f n s v + 64 * cost_by f n (λ q. rounded (s q)) w + 32 * differing_by f n w v
  unfolding cost_by differing_by
  costs_by_near s w v =
      total_near n _ _ _ _ _ (λ q h.
      rw (← thirty_two (eqb (sent_by f w q) (sent_by f v q)))
      (cost_near (s q) (sent_by f w q) (sent_by f v q) (sent_low f w q) (sent_low f v q)))

module _ (ps : List Pdu) (a : ℕ) where
  -- two trains differ in n bits at most
  pub differing_count : (w v : List ℕ) → differing ps a w v ≤ sent_of ps
  unfolding differing
  differing_count = differing_by_count (listed ps a) (sent_of ps)

  -- the rounded cost of readings puts the soft byte for S
  pub by_soft : (i q : List ℤ) (w : List ℕ)
      → rounded_cost ps a (softened ps i q) w ≡ cost_by (listed ps a) (sent_of ps) (λ p. rounded (list_exact ps i q p)) w
  unfolding rounded_cost cost_by softened list_soft
  by_soft i q w =
      total_ext (sent_of ps) _ _
      (λ p h. ap (λ (z : ℤ). bit_cost z (sent_by (listed ps a) w p)) (tabulate_at (sent_of ps) (list_soft ps i q) p (pos 0) h))

  pub costs_near : (i q : List ℤ) (w v : List ℕ)
      → exact_cost ps a i q w + 64 * rounded_cost ps a (softened ps i q) v
      ≤ exact_cost ps a i q v + 64 * rounded_cost ps a (softened ps i q) w + 32 * differing ps a w v
  unfolding exact_cost differing
  costs_near i q w v = rw (by_soft i q v, by_soft i q w) (costs_by_near (listed ps a) (sent_of ps) (list_exact ps i q) w v)
