-- Laws of table 5: its rows in the code, its ideal readings, and signed numbers as the code passes them on.
-- Assumes nothing.
use mathlib.Core.Path.{◌≡◌, refl, ◌∙◌}
use mathlib.Core.Bool.{Bool, true, false}
use mathlib.Core.List.{List, [], ◌∷◌}
use Prim.Native.Nat.{ℕ, zero, suc, ◌*◌, ◌/◌, ◌%◌, ◌^◌, ◌<◌, ◌≤◌}
use native.Mathlib.Nat.{one-mul}
use native.Mathlib.Omega.{arith}
use lib.Dec.{eqb, lit<}
use lib.IntN.{ℤ, pos, ◌*ℤ◌}
use lib.ListN.{get_or}
use lib.Pow.{shl_exact}
use lib.Signed.{mag}
use mir.Syntax.{w16}
use mir.Val.{SFits, to_z, of_z}
use mir.ValLaws.{to_z-of_z}
use borrow.Author.Tests.{ne_eqb}
use Rattle.laws.specs.Lists.{choose, tabulate}
use Rattle.laws.proofs.ListLaws.{tabulate_at}
use Rattle.laws.proofs.SignedLaws.{kept}
use Rattle.modes.specs.declared.Constellation.{Constellation}
use Rattle.points.specs.Levels.{Entry, ◌gives◌, one, two, three, table, level, width_i, width_q, level_i, level_q}
use Rattle.points.specs.Points.{reading}

-- a list that has table 5 in rows of eight, by the number of bits and by their value
pub rows : (l : List (List ℤ))
    → l ≡ tabulate 4 (λ w. tabulate 8 (level (table w)))
    → (w v : ℕ) → w < 4 → v < 8 → get_or (get_or l w []) v (pos 0) ≡ level (table w) v
rows l e w v hw hv =
    rw (e, tabulate_at 4 (λ u. tabulate 8 (level (table u))) w [] hw) (tabulate_at 8 (level (table w)) v (pos 0) hv)

-- a table of values under 8 and of levels whose ideal readings are signed 16-bit numbers
data Fair : List Entry → Type 0 where
  none : Fair []
  more : {b : ℕ} {l : ℤ} {es : List Entry} → b < 8 → mag (reading l) < 2 ^ 15 → Fair es → Fair ((b gives l) ∷ es)

tables_fair : (w : ℕ) → Fair (table w)
unfolding table one two three reading
tables_fair zero = none
tables_fair (suc zero) = search (none, more, lit<, tt) depth 12
tables_fair (suc (suc zero)) = search (none, more, lit<, tt) depth 12
tables_fair (suc (suc (suc zero))) = search (none, more, lit<, tt) depth 12
tables_fair (suc (suc (suc (suc w)))) = none

none_given : {es : List Entry} → Fair es → (v : ℕ) → 8 ≤ v → pos 0 ≡ level es v
unfolding level
none_given none v h = refl
none_given (more {b} hb hl f) v h = rw (ne_eqb v b (λ e. omega arith)) (none_given f v h)

-- table 5 gives nothing for a value of more than three bits
pub none_past : (w v : ℕ) → 8 ≤ v → pos 0 ≡ level (table w) v
none_past w = none_given (tables_fair w)

chosen : (P : ℤ → Type 0) (t : Bool) {a b : ℤ} → P a → P b → P (choose t a b)
chosen P true p q = p
chosen P false p q = q

given_fits : {es : List Entry} → Fair es → (v : ℕ) → SFits w16 (reading (level es v))
unfolding level reading
given_fits none v = record { sfits = lit< tt }
given_fits (more {b} hb hl f) v =
    chosen (λ z. SFits w16 (reading z)) (eqb v b) (record { sfits = hl }) (given_fits f v)

-- an ideal reading is a signed 16-bit number
pub fits_i : (c : Constellation) (g : ℕ) → SFits w16 (reading (level_i c g))
unfolding level_i
fits_i c g = given_fits (tables_fair (width_i c)) (g / 2 ^ width_q c)

pub fits_q : (c : Constellation) (g : ℕ) → SFits w16 (reading (level_q c g))
unfolding level_q
fits_q c g = given_fits (tables_fair (width_q c)) (g % 2 ^ width_q c)

-- the code's power of two
pub shifted : (w : ℕ) → w < 64 → 1 * 2 ^ w % 2 ^ 64 ≡ 2 ^ w
shifted w h = shl_exact 1 w 64 (lit< tt) (omega arith) ∙ one-mul (2 ^ w)

-- z holds the level l, whose reading is a signed 16-bit number: the code's product fits and is that reading
module _ (z : ℤ) {l : ℤ} (small : mag z < 2 ^ 15) (holds : z ≡ l) (fits : SFits w16 (reading l)) where
  pub product_fits : SFits w16 (pos 256 *ℤ to_z w16 (of_z w16 z))
  unfolding reading
  product_fits = rw (kept w16 z small holds) fits

  pub product_is : to_z w16 (of_z w16 (pos 256 *ℤ to_z w16 (of_z w16 z))) ≡ reading l
  unfolding reading
  product_is = rw (kept w16 z small holds) (to_z-of_z w16 (reading l) fits)
