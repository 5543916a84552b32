-- S in closed form, against the least squared distances: the test of every bit at every held reading, and the law that turns
-- it into the rule.
-- Assumes nothing.
use mathlib.Core.Path.{◌≡◌, refl, ap}
use mathlib.Core.Bool.{Bool, true, false}
use mathlib.Core.List.{List, [], ◌∷◌, map}
use Prim.Native.Nat.{ℕ, zero, suc, ◌+◌, ◌-◌, ◌*◌, ◌<◌, ◌≤◌}
use native.Mathlib.Omega.{arith}
use lib.Dec.{T, eqb, eqb→eq}
use lib.IntN.{ℤ, pos, ◌-ℤ◌}
use Rattle.laws.specs.Lists.{choose}
use Rattle.laws.proofs.Tables.{below, below_at}
use Rattle.points.specs.Levels.{Entry, ◌gives◌, table}
use Rattle.points.specs.Points.{reading}
use Rattle.soft.specs.Soft.{squared, bit_at, distances, least, least_to}
use Rattle.soft.specs.Closed.{up, down, folded_to}

-- the ideal readings of a table's levels whose bit j is b
unfoldable pub ideals : List Entry → (w j b : ℕ) → List ℤ
ideals [] w j b = []
ideals ((v gives l) ∷ es) w j b = choose (eqb (bit_at w j v) b) (reading l ∷ ideals es w j b) (ideals es w j b)

distances_are : (es : List Entry) (w j b : ℕ) (z : ℤ) → distances es w j b z ≡ map (squared z) (ideals es w j b)
unfolding distances ideals
distances_are [] w j b z = refl
distances_are ((v gives l) ∷ es) w j b z = go (eqb (bit_at w j v) b) (distances_are es w j b z)
  where
    go : (t : Bool) → distances es w j b z ≡ map (squared z) (ideals es w j b)
        → choose t (squared z (reading l) ∷ distances es w j b z) (distances es w j b z)
        ≡ map (squared z) (choose t (reading l ∷ ideals es w j b) (ideals es w j b))
    go true rest = ap (λ ds. squared z (reading l) ∷ ds) rest
    go false rest = rest

-- the least squared distance to some readings
unfoldable pub nearest : List ℤ → ℤ → ℕ
nearest l z = least (map (squared z) l)

-- a reading z, and the first of v bits at x: the least to the one half and to the other are 1024 (up - down) apart
unfoldable pub right : (l₀ l₁ : List ℤ) (v x : ℕ) → ℤ → Bool
right l₀ l₁ v x z = eqb (nearest l₀ z + 1024 * down v x) (nearest l₁ z + 1024 * up v x)

-- that at every held reading, for bit j of w bits; the halves are made once, and not at every reading
unfoldable pub all_right : (l₀ l₁ : List ℤ) (w j : ℕ) → Bool
all_right l₀ l₁ w j = below (λ p. right l₀ l₁ (w - j) (folded_to w j p) (pos p -ℤ pos 2048)) 4097

-- that of the levels whose bit j is 0 and of those where it is 1
unfoldable pub bit_right : (w j : ℕ) → Bool
bit_right w j = all_right (ideals (table w) w j 0) (ideals (table w) w j 1) w j

-- every bit of one, two and three
unfoldable pub test : Bool
test = below (λ v. below (bit_right (suc v)) (suc v)) 3

pub closed_at : T test → (w j p : ℕ) → j < w → w ≤ 3 → p ≤ 4096
    → least_to w j 0 (pos p -ℤ pos 2048) + 1024 * down (w - j) (folded_to w j p)
    ≡ least_to w j 1 (pos p -ℤ pos 2048) + 1024 * up (w - j) (folded_to w j p)
unfolding least_to nearest right all_right bit_right test
closed_at t zero j p hj hw hp = absurd (omega arith)
closed_at t (suc v) j p hj hw hp =
    let of_w : T (below (bit_right (suc v)) (suc v)) = below_at (λ u. below (bit_right (suc u)) (suc u)) 3 t v (omega arith) in
    let of_j : T (bit_right (suc v) j) = below_at (bit_right (suc v)) (suc v) of_w j hj in
    rw (distances_are (table (suc v)) (suc v) j 0 (pos p -ℤ pos 2048), distances_are (table (suc v)) (suc v) j 1 (pos p -ℤ pos 2048))
    (eqb→eq _ _
    (below_at
    (λ m. right (ideals (table (suc v)) (suc v) j 0) (ideals (table (suc v)) (suc v) j 1) (suc v - j) (folded_to (suc v) j m) (pos m -ℤ pos 2048))
    4097 of_j p (omega arith)))
