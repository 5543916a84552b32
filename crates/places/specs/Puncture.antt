-- P1 and P2 (5.3.1.2): which coded bits go out, and in what order. Coded bit 2 t is X of input t, and 2 t + 1 its Y.
--   x_of, y_of  a period's bits by the numbers of table 2, counted from 1
--   p1_kept     table 2: the survivors of one period of 13 pairs, in the order in which they go out
--   p1          six such periods from input a on; all other pairs go out X then Y
--   p2          table 3, numbering P1's output from 0
-- Assumes nothing.
use Rattle.std.specs.Prelude.{ℕ, ◌+◌, ◌-◌, ◌*◌, List, [], ◌∷◌}
use Rattle.modes.specs.declared.Rate.{Rate}
use Rattle.modes.specs.declared.Rate.TheVariants.{Half, NineSixteenths, ThreeQuarters}
use Rattle.places.specs.Selection.{Selection, all, blocks, beside}

-- X of a period's pair i
abbrev pub x_of : ℕ → ℕ
x_of i = 2 * (i - 1)

-- Y of a period's pair i
abbrev pub y_of : ℕ → ℕ
y_of i = 2 * (i - 1) + 1

-- table 2: X7 and Y13 are dropped, and X8 goes out before Y7
unfoldable pub p1_kept : List ℕ
p1_kept =
    x_of 1 ∷ y_of 1 ∷ x_of 2 ∷ y_of 2 ∷ x_of 3 ∷ y_of 3 ∷ x_of 4 ∷ y_of 4 ∷ x_of 5 ∷ y_of 5 ∷ x_of 6 ∷ y_of 6
    ∷ x_of 8 ∷ y_of 7 ∷ x_of 9 ∷ y_of 8 ∷ x_of 10 ∷ y_of 9 ∷ x_of 11 ∷ y_of 10 ∷ x_of 12 ∷ y_of 11 ∷ x_of 13 ∷ y_of 12
    ∷ []

-- the pairs of inputs a to a + 77, 156 coded bits in six periods, of which 144 go out; all other pairs go out X then Y
unfoldable pub p1 : ℕ → Selection
p1 a = beside (2 * a) (2 * a) all (beside 156 144 (blocks p1_kept 26) all)

-- table 3, rate 3/4: 3 and 4 of each 6 are dropped
unfoldable pub p2_kept_3_4 : List ℕ
p2_kept_3_4 = 0 ∷ 1 ∷ 2 ∷ 5 ∷ []

-- table 3, rate 9/16: 9 and 16 of each 18 are dropped
unfoldable pub p2_kept_9_16 : List ℕ
p2_kept_9_16 = 0 ∷ 1 ∷ 2 ∷ 3 ∷ 4 ∷ 5 ∷ 6 ∷ 7 ∷ 8 ∷ 10 ∷ 11 ∷ 12 ∷ 13 ∷ 14 ∷ 15 ∷ 17 ∷ []

-- rate 1/2 keeps all; what stays keeps its order
unfoldable pub p2 : Rate → Selection
p2 Half = all
p2 ThreeQuarters = blocks p2_kept_3_4 6
p2 NineSixteenths = blocks p2_kept_9_16 18
