-- A selection says which of a row of bits go out, and in what order. P1, P2, the interleaver and whole trains are selections.
--   Place      where a bit goes: goes_to j, or dropped
--   Selection  all, blocks, after, beside
--   place      the place of the input bit m: the customer's "place of every bit"
--   origin     the input bit that goes out at q
--   at_place   a value by a bit's place, 0 where it is dropped
-- Assumes nothing.
use Rattle.std.specs.Prelude.{ℕ, ◌+◌, ◌-◌, ◌*◌, ◌/◌, ◌%◌, List, [], ◌∷◌, ltb, eqb, length, get_or}
use Rattle.laws.specs.Lists.{choose}

-- where a bit goes
pub data Place : Type 0 where
  goes_to : ℕ → Place
  dropped : Place

-- a place counted from another start
unfoldable pub later : ℕ → Place → Place
later o (goes_to j) = goes_to (o + j)
later o dropped = dropped

-- what becomes of a bit that goes through two selections
unfoldable pub onwards : Place → (ℕ → Place) → Place
onwards (goes_to j) g = g j
onwards dropped g = dropped

-- where r stands in a list
unfoldable pub find : ℕ → List ℕ → Place
find r [] = dropped
find r (x ∷ xs) = choose (eqb r x) (goes_to 0) (later 1 (find r xs))

-- all: every bit, in order.
-- blocks kept period: of every block of `period` bits those at the places `kept`, in that order.
-- after f g: f, and then g on what f lets out.
-- beside i o f g: f takes the first i bits and lets out o; g takes the rest.
pub data Selection : Type 0 where
  all : Selection
  blocks : List ℕ → ℕ → Selection
  after : Selection → Selection → Selection
  beside : ℕ → ℕ → Selection → Selection → Selection

-- the place of the input bit m
unfoldable pub place : Selection → ℕ → Place
place all m = goes_to m
place (blocks kept period) m = later (length kept * (m / period)) (find (m % period) kept)
place (after f g) m = onwards (place f m) (place g)
place (beside i o f g) m = choose (ltb m i) (place f m) (later o (place g (m - i)))

-- the input bit that goes out at q
unfoldable pub origin : Selection → ℕ → ℕ
origin all q = q
origin (blocks kept period) q = period * (q / length kept) + get_or kept (q % length kept) 0
origin (after f g) q = origin f (origin g q)
origin (beside i o f g) q = choose (ltb q o) (origin f q) (i + origin g (q - o))

-- a value by a bit's place, 0 where it is dropped
unfoldable pub at_place : (ℕ → ℕ) → Place → ℕ
at_place g (goes_to j) = g j
at_place g dropped = 0
