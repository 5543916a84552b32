-- There is one train that is returned; and what is returned and what is confirmed depend on the trains of N bits alone.
-- Assumes nothing.
use mathlib.Core.Path.{◌≡◌, refl, sym, ◌∙◌}
use mathlib.Core.Bool.{Bool, true, false}
use mathlib.Core.List.{List, List-discrete}
use Prim.Native.Nat.{ℕ}
use native.Mathlib.Decide.{ℕ_discrete}
use native.Mathlib.Omega.{arith}
use lib.Dec.{ltb}
use borrow.Author.Tests.{ltb-true, ltb-false}
use Rattle.coder.specs.Train.{Train}
use Rattle.trellis.specs.Wanted.{Ahead, Returned, Confirmed}

-- of two trains, not both are ahead of the other
ahead_once : {w v : List ℕ} → Ahead w v → Ahead v w → ⊥
ahead_once {w} {v} a c = go (ltb a.place c.place) refl (ltb c.place a.place) refl
  where
    go : (x : Bool) → ltb a.place c.place ≡ x → (y : Bool) → ltb c.place a.place ≡ y → ⊥
    go true e y f = omega (arith, a.last c.place (ltb-true _ _ e), c.has_0, c.has_1)
    go false e true f = omega (arith, c.last a.place (ltb-true _ _ f), a.has_0, a.has_1)
    go false e false f =
        let same : a.place ≡ c.place = omega (arith, ltb-false a.place c.place e, ltb-false c.place a.place f) in
        omega (arith, rw same at a.has_0, c.has_1)

-- one train at most is returned
pub returned_unique : {N : ℕ} {cost : List ℕ → ℕ} {w v : List ℕ} → Returned N cost w → Returned N cost v → w ≡ v
returned_unique {N} {cost} {w} {v} r q = go (List-discrete ℕ_discrete w v)
  where
    same : cost w ≡ cost v
    same = omega (arith, r.least v q.train, q.least w r.train)

    go : Dec (w ≡ v) → w ≡ v
    go (yes e) = e
    go (no apart) = absurd (ahead_once (r.ahead v q.train (λ e. apart (sym e)) (sym same)) (q.ahead w r.train apart same))

-- which one, the costs of the trains of N bits tell
pub returned_same_cost : {N : ℕ} {cost cost' : List ℕ → ℕ} {w : List ℕ} → ((v : List ℕ) → Train N v → cost v ≡ cost' v)
    → Returned N cost w → Returned N cost' w
returned_same_cost {N} {cost} {cost'} {w} same r = record {
  train = r.train;
  least = λ v t. omega (arith, r.least v t, same v t, same w r.train);
  ahead = λ v t apart e. r.ahead v t apart (same v t ∙ e ∙ sym (same w r.train));
}

-- whether it is confirmed, those costs and the counts against it
pub confirmed_same : (N : ℕ) (cost cost' : List ℕ → ℕ) (differing differing' : List ℕ → List ℕ → ℕ) (w : List ℕ) → Train N w
    → ((v : List ℕ) → Train N v → cost v ≡ cost' v)
    → ((v : List ℕ) → Train N v → differing w v ≡ differing' w v)
    → Confirmed N cost differing w → Confirmed N cost' differing' w
unfolding Confirmed
confirmed_same N cost cost' differing differing' w train same_cost same_count sure v t apart =
    omega (arith, sure v t apart, same_cost v t, same_cost w train, same_count v t)
