-- The tail and the encoder (5.3.1.1), zero at the start. Coded bit 2 t is X of input t, and 2 t + 1 its Y.
--   tail, tailed    six zero bits follow, not scrambled
--   lags_x, lags_y  the two polynomials, octal 133 and 171, by their lags
--   lag             the input k before input t
--   tapped          the sum of the inputs at some lags
--   coded           coded bit m of a train
-- Assumes nothing.
use Rattle.std.specs.Prelude.{ℕ, ◌+◌, ◌-◌, ◌/◌, ◌%◌, List, [], ◌∷◌, ◌++◌, leb, eqb, get_or}
use Rattle.laws.specs.Lists.{choose}

-- six zero bits
unfoldable pub tail : List ℕ
tail = 0 ∷ 0 ∷ 0 ∷ 0 ∷ 0 ∷ 0 ∷ []

-- they follow the scrambled train
unfoldable pub tailed : List ℕ → List ℕ
tailed w = w ++ tail

-- X sums the inputs at lags 0, 2, 3, 5, 6
unfoldable pub lags_x : List ℕ
lags_x = 0 ∷ 2 ∷ 3 ∷ 5 ∷ 6 ∷ []

-- Y sums the inputs at lags 0, 1, 2, 3, 6
unfoldable pub lags_y : List ℕ
lags_y = 0 ∷ 1 ∷ 2 ∷ 3 ∷ 6 ∷ []

-- the input k before input t, zero before the start
unfoldable pub lag : List ℕ → ℕ → ℕ → ℕ
lag w t k = choose (leb k t) (get_or w (t - k) 0) 0

-- the sum of the inputs at some lags
unfoldable pub tapped : List ℕ → List ℕ → ℕ → ℕ
tapped [] w t = 0
tapped (k ∷ ks) w t = lag w t k + tapped ks w t

-- coded bit m of the inputs w
unfoldable pub coded : List ℕ → ℕ → ℕ
coded w m = tapped (choose (eqb (m % 2) 0) lags_x lags_y) w (m / 2) % 2
