-- Laws of a carrier's bits: the soft bytes for I and for Q, as the code stores them.
-- Assumes nothing.
use mathlib.Core.Path.{◌≡◌, refl, sym, ap, ◌∙◌}
use mathlib.Core.List.{List}
use Prim.Native.Nat.{ℕ, ◌+◌, ◌-◌, ◌*◌, ◌/◌, ◌%◌, ◌<◌, ◌≤◌}
use native.Mathlib.Nat.{mul-suc}
use native.Mathlib.Numerals.{add-one}
use native.Mathlib.Omega.{arith}
use lib.IntN.{ℤ, pos}
use lib.ListN.{length, get_or}
use lib.Signed.{mag}
use mir.Syntax.{w16}
use mir.Val.{to_z, of_z}
use borrow.Author.Tests.{lt-ltb, le-ltb}
use Rattle.laws.specs.Lists.{filled}
use Rattle.laws.specs.Signed.{counted}
use Rattle.laws.proofs.SignedLaws.{kept}
use Rattle.modes.specs.declared.Constellation.{Constellation}
use Rattle.modes.specs.declared.Constellation.TheVariants.{Bpsk, Qpsk, Qam16, Qam64}
use Rattle.modes.specs.Modes.{bits_of}
use Rattle.points.specs.Levels.{width_i, width_q}
use Rattle.soft.specs.Soft.{held, soft_byte}
use Rattle.soft.specs.Carriers.{exact_of, exact_at, soft_at}
use Rattle.soft.specs.Closed.{soft_from}
use Rattle.soft.specs.Stored.{stored}
use Rattle.soft.proofs.ClosedLaws.{byte_closed}
use Rattle.soft.proofs.StoredLaws.{stored_same, stored_join, stored_filled}

-- carrier k's bit j is sent bit b k + j
pub place : (c : Constellation) (k j : ℕ) → j < bits_of c → ((bits_of c * k + j) / bits_of c ≡ k) × ((bits_of c * k + j) % bits_of c ≡ j)
place Bpsk k j h = omega arith
place Qpsk k j h = omega arith
place Qam16 k j h = omega arith
place Qam64 k j h = omega arith

pub within : (c : Constellation) (p : ℕ) → p % bits_of c < bits_of c
within Bpsk p = omega arith
within Qpsk p = omega arith
within Qam16 p = omega arith
within Qam64 p = omega arith

-- the bits for I and those for Q, at most three each
pub widths : (c : Constellation) → (width_i c + width_q c ≡ bits_of c) × (width_i c ≤ 3) × (width_q c ≤ 3)
unfolding width_i width_q
widths Bpsk = omega arith
widths Qpsk = omega arith
widths Qam16 = omega arith
widths Qam64 = omega arith

-- the soft bytes of carrier k, those for I first
module _ (c : Constellation) (i q : List ℤ) (k : ℕ) where
  pub soft_on_i_lem : (j : ℕ) → j < width_i c → soft_at c i q (bits_of c * k + j) ≡ soft_byte (width_i c) j (get_or i k (pos 0))
  unfolding soft_at exact_at exact_of soft_byte
  soft_on_i_lem j h =
      let at = place c k j (omega (arith, widths c)) in
      rw (at.0, at.1, lt-ltb j (width_i c) h)

  pub soft_on_q : (j : ℕ) → j < width_q c → soft_at c i q (bits_of c * k + (width_i c + j)) ≡ soft_byte (width_q c) j (get_or q k (pos 0))
  unfolding soft_at exact_at exact_of soft_byte
  soft_on_q j h =
      let at = place c k (width_i c + j) (omega (arith, widths c)) in
      let rest : width_i c + j - width_i c ≡ j = omega arith in
      rw (at.0, at.1, le-ltb (width_i c + j) (width_i c) (omega arith), rest)

-- the soft byte that the code makes of a reading that it passes on
made : (w j p : ℕ) (z : ℤ) → mag z < 32768 → p ≡ counted 2048 (held (to_z w16 (of_z w16 z))) → j < w → w ≤ 3 → soft_from w p j ≡ soft_byte w j z
made w j p z fits e hj hw = rw (e, kept w16 z fits refl) (byte_closed w j z hj hw)

-- what the code stores for I and then for Q is what is stored for the carrier
pub carrier_stored : (c : Constellation) (i q : List ℤ) (k b p p' : ℕ) (l l₁ l₂ : List ℤ)
    → b ≡ bits_of c
    → mag (get_or i k (pos 0)) < 32768
    → mag (get_or q k (pos 0)) < 32768
    → p ≡ counted 2048 (held (to_z w16 (of_z w16 (get_or i k (pos 0)))))
    → p' ≡ counted 2048 (held (to_z w16 (of_z w16 (get_or q k (pos 0)))))
    → l₁ ≡ stored (b * k) (b - b / 2) (soft_from (b - b / 2) p) l
    → l₂ ≡ stored (b * k + (b - b / 2)) (b / 2) (soft_from (b / 2) p') l₁
    → l₂ ≡ stored (bits_of c * k) (bits_of c) (λ j. soft_at c i q (bits_of c * k + j)) l
unfolding width_i width_q
carrier_stored c i q k b p p' l l₁ l₂ eb fi fq ei eq e₁ e₂ =
    rw (e₂, e₁, eb)
    (stored_same (at + width_i c) (width_q c) (soft_from (width_q c) p') (λ j. F (width_i c + j)) _
    (λ j h. made (width_q c) j p' (get_or q k (pos 0)) fq eq h (widths c).2 ∙ sym (soft_on_q c i q k j h))
    ∙ ap (stored (at + width_i c) (width_q c) (λ j. F (width_i c + j)))
    (stored_same at (width_i c) (soft_from (width_i c) p) F l
    (λ j h. made (width_i c) j p (get_or i k (pos 0)) fi ei h (widths c).1 ∙ sym (soft_on_i_lem c i q k j h)))
    ∙ stored_join at (width_i c) (width_q c) F l
    ∙ ap (λ n. stored at n F l) (widths c).0)
  where
    at : ℕ
    at = bits_of c * k

    F : ℕ → ℤ
    F j = soft_at c i q (at + j)

-- what is stored for carrier k behind those before it fills the buffer up to the next
pub carrier_filled : (c : Constellation) (i q : List ℤ) (k : ℕ) (l₀ l l' : List ℤ)
    → bits_of c * k + bits_of c ≤ length l₀
    → l ≡ filled (bits_of c * k) (soft_at c i q) l₀
    → l' ≡ stored (bits_of c * k) (bits_of c) (λ j. soft_at c i q (bits_of c * k + j)) l
    → l' ≡ filled (bits_of c * (k + 1)) (soft_at c i q) l₀
carrier_filled c i q k l₀ l l' room so_far now =
    rw (now, so_far, add-one k, mul-suc (bits_of c) k)
    (stored_filled (bits_of c * k) (bits_of c) (soft_at c i q) l₀ room)
