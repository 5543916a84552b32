-- Laws of ideal readings: the soft byte of a sent bit costs nothing for that bit, and 4 or more for the other value.
-- Assumes nothing.
use mathlib.Core.Path.{◌≡◌, refl, sym, ap, ◌∙◌}
use mathlib.Core.Bool.{Bool, true, false}
use mathlib.Core.List.{List}
use Prim.Native.Nat.{ℕ, ◌+◌, ◌-◌, ◌*◌, ◌/◌, ◌%◌, ◌^◌, ◌<◌, ◌≤◌}
use native.Mathlib.Nat.{add_assoc, div-add-mod}
use native.Mathlib.Omega.{arith}
use lib.Dec.{ltb}
use lib.IntN.{ℤ, pos}
use lib.ListN.{get_or}
use borrow.Author.Tests.{ltb-true, ltb-false}
use Rattle.laws.proofs.PackingLaws.{written_low, written_first, written_last, written_bit}
use Rattle.modes.specs.declared.Constellation.{Constellation}
use Rattle.modes.specs.Modes.{bits_of}
use Rattle.points.specs.Levels.{width_i, width_q, level_i, level_q, value_of, group}
use Rattle.points.specs.Points.{ideal_i, ideal_q}
use Rattle.soft.specs.Soft.{bit_at, bit_cost}
use Rattle.soft.specs.Carriers.{soft_at}
use Rattle.soft.proofs.IdealTest.{Clear, ideal_byte, clear_at}
use Rattle.soft.proofs.Runs.{ideal_tested}
use Rattle.soft.proofs.CarrierLaws.{widths, within, soft_on_i_lem, soft_on_q}

module _ (c : Constellation) (sent : List ℕ) (bit : (m : ℕ) → get_or sent m 0 < 2) (i q : List ℤ) (k : ℕ) where
  -- bit j of w sent bits
  bit_at_place : (from w j : ℕ) → j < w → bit_at w j (value_of sent from w) ≡ get_or sent (from + j) 0
  unfolding bit_at
  bit_at_place from w j h = written_bit (λ m. get_or sent m 0) bit from w j h

  -- the bits of carrier k that are for I, and those that are for Q
  on_i : group (bits_of c) sent k / 2 ^ width_q c ≡ value_of sent (bits_of c * k) (width_i c)
  unfolding group
  on_i =
      ap (λ n. value_of sent (bits_of c * k) n / 2 ^ width_q c) (sym (widths c).0)
      ∙ written_first (λ m. get_or sent m 0) bit (bits_of c * k) (width_i c) (width_q c)

  on_q : group (bits_of c) sent k % 2 ^ width_q c ≡ value_of sent (bits_of c * k + width_i c) (width_q c)
  unfolding group
  on_q =
      ap (λ n. value_of sent (bits_of c * k) n % 2 ^ width_q c) (sym (widths c).0)
      ∙ written_last (λ m. get_or sent m 0) bit (bits_of c * k) (width_i c) (width_q c)

  clear_i : get_or i k (pos 0) ≡ ideal_i c sent k → (j : ℕ) → j < width_i c
      → Clear (soft_at c i q (bits_of c * k + j)) (get_or sent (bits_of c * k + j) 0)
  unfolding ideal_i level_i ideal_byte
  clear_i e j h =
      let v = value_of sent (bits_of c * k) (width_i c) in
      rw (soft_on_i_lem c i q k j h, e, on_i, ← bit_at_place (bits_of c * k) (width_i c) j h)
      (clear_at ideal_tested (width_i c) j v h (widths c).1 (written_low (λ m. get_or sent m 0) bit (bits_of c * k) (width_i c)))

  clear_q : get_or q k (pos 0) ≡ ideal_q c sent k → (j : ℕ) → j < width_q c
      → Clear (soft_at c i q (bits_of c * k + (width_i c + j))) (get_or sent (bits_of c * k + (width_i c + j)) 0)
  unfolding ideal_q level_q ideal_byte
  clear_q e j h =
      let v = value_of sent (bits_of c * k + width_i c) (width_q c) in
      rw (soft_on_q c i q k j h, e, on_q, ← add_assoc, ← bit_at_place (bits_of c * k + width_i c) (width_q c) j h)
      (clear_at ideal_tested (width_q c) j v h (widths c).2 (written_low (λ m. get_or sent m 0) bit (bits_of c * k + width_i c) (width_q c)))

  clear : get_or i k (pos 0) ≡ ideal_i c sent k → get_or q k (pos 0) ≡ ideal_q c sent k → (j : ℕ) → j < bits_of c
      → Clear (soft_at c i q (bits_of c * k + j)) (get_or sent (bits_of c * k + j) 0)
  clear ei eq j h = go (ltb j (width_i c)) refl
    where
      go : (t : Bool) → ltb j (width_i c) ≡ t → Clear (soft_at c i q (bits_of c * k + j)) (get_or sent (bits_of c * k + j) 0)
      go true t = clear_i ei j (ltb-true j (width_i c) t)
      go false t =
          let past : width_i c ≤ j = ltb-false j (width_i c) t in
          let whole : width_i c + (j - width_i c) ≡ j = omega arith in
          rw whole at (clear_q eq (j - width_i c) (omega (arith, widths c)))

-- sent bit p, where the readings of its carrier are ideal
module _ (c : Constellation) (sent : List ℕ) (bit : (m : ℕ) → get_or sent m 0 < 2) (i q : List ℤ) (p : ℕ)
    (on_i : get_or i (p / bits_of c) (pos 0) ≡ ideal_i c sent (p / bits_of c))
    (on_q : get_or q (p / bits_of c) (pos 0) ≡ ideal_q c sent (p / bits_of c))
  where
    clear_sent : Clear (soft_at c i q p) (get_or sent p 0)
    clear_sent =
        rw (div-add-mod p (bits_of c)) at (clear c sent bit i q (p / bits_of c) on_i on_q (p % bits_of c) (within c p))

    pub ideal_own : bit_cost (soft_at c i q p) (get_or sent p 0) ≡ 0
    ideal_own = clear_sent.own

    pub ideal_other : (b : ℕ) → b < 2 → (b ≡ get_or sent p 0 → ⊥) → 4 ≤ bit_cost (soft_at c i q p) b
    ideal_other b hb apart =
        let e : b ≡ 1 - get_or sent p 0 = omega (arith, bit p) in
        rw e clear_sent.other
