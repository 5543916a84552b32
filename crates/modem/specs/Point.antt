-- What `mapped` promises.
--   plus_zero       the float of a refused call
--   mapped_refusal  its refusals: 1 and 9
--   MapsTo          its answer, the point with it
-- Assumes nothing.
use Rattle.std.specs.Prelude.{ℕ, ◌^◌, [], ◌∷◌, leb, Float}
use Rattle.std.specs.Float.{binary32}
use Rattle.std.specs.Float.Ieee.{of_bits}
use Rattle.laws.specs.Ladder.{◌when◌, ladder}
use Rattle.laws.specs.Answers.{Answers}
use Rattle.modes.specs.Modes.{constellation_of, bits}
use Rattle.modes.specs.Refusals.{mode_unknown}
use Rattle.points.specs.Levels.{level_i, level_q}
use Rattle.points.specs.Points.{part}

-- +0
abbrev pub plus_zero : Float
plus_zero = of_bits binary32 0

-- 1 for the mode, and 9 for a group value too large for its carrier
unfoldable pub mapped_refusal : (mode group : ℕ) → ℕ
mapped_refusal mode group = ladder ((1 when mode_unknown mode) ∷ (9 when leb (2 ^ bits mode) group) ∷ [])

-- the answer r and the point i, q: on success the point of the group, on a refusal +0 and +0
unfoldable pub MapsTo : (mode group r : ℕ) → (i q : Float) → Type 0
MapsTo mode group r i q =
    Answers {B = Float × Float} (mapped_refusal mode group)
    (part (constellation_of mode) (level_i (constellation_of mode) group), part (constellation_of mode) (level_q (constellation_of mode) group))
    (plus_zero, plus_zero)
    r (i, q)
