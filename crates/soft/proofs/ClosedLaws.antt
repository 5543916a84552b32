-- S and the soft byte in closed form, S a whole number, and how large both are.
-- Assumes nothing.
use mathlib.Core.Path.{◌≡◌, refl, sym, ap, ◌∙◌}
use mathlib.Core.Bool.{Bool, true, false}
use Prim.Native.Nat.{ℕ, zero, suc, ◌+◌, ◌-◌, ◌*◌, ◌/◌, ◌^◌, ◌<◌, ◌≤◌}
use native.Mathlib.Nat.{add-zero}
use native.Mathlib.Numerals.{add-one}
use native.Mathlib.Omega.{arith}
use lib.Dec.{ltb}
use lib.IntN.{ℤ, pos, negsuc, neg_ℤ, ◌-ℤ◌, ◌*ℤ◌, +ℤ_idl}
use lib.Pow.{pow_mono}
use lib.Signed.{quot_z}
use borrow.Author.Tests.{ltb-true, ltb-false}
use Rattle.laws.specs.Signed.{counted}
use Rattle.laws.specs.Sums.{total}
use Rattle.laws.proofs.SignedLaws.{less_pos, less_neg, less_from, neg_is}
use Rattle.laws.proofs.SumLaws.{total_none}
use Rattle.soft.specs.Soft.{held, least_to, s_of, rounded, soft_byte}
use Rattle.soft.specs.Closed.{strength, folded, folded_to, up, down, near, byte_from, soft_from}
use Rattle.soft.proofs.HeldLaws.{held_within, held_back}
use Rattle.soft.proofs.ClosedTest.{closed_at}
use Rattle.soft.proofs.Runs.{tested}

-- at zero no border is passed
strength_none : (v : ℕ) → strength v 0 ≡ 0
unfolding strength
strength_none v = total_none (2 ^ (v - 1)) (λ k. 0 - 512 * k) (λ k h. omega arith)

pub strength_one : (v m : ℕ) → v ≡ 1 → strength v m ≡ m
unfolding strength total
strength_one v m e = rw e (omega arith)

pub strength_two : (v m : ℕ) → v ≡ 2 → strength v m ≡ m + (m - 512)
unfolding strength total
strength_two v m e = rw e (omega arith)

pub strength_three : (v m : ℕ) → v ≡ 3 → strength v m ≡ m + (m - 512) + (m - 1024) + (m - 1536)
unfolding strength total
strength_three v m e = rw e (omega arith)

strength_most : (v m : ℕ) → v ≤ 3 → m ≤ 2048 → strength v m ≤ 5120
unfolding strength total
strength_most zero m hv hm = omega arith
strength_most (suc zero) m hv hm = omega arith
strength_most (suc (suc zero)) m hv hm = omega arith
strength_most (suc (suc (suc zero))) m hv hm = omega arith
strength_most (suc (suc (suc (suc v)))) m hv hm = absurd (omega arith)

folded_within : (v p : ℕ) → v ≤ 3 → folded v p ≤ 4096
unfolding folded
folded_within v p hv = let h : 2 ^ v ≤ 2 ^ 3 = pow_mono hv in omega arith

folded_to_within : (w j p : ℕ) → w ≤ 3 → p ≤ 4096 → folded_to w j p ≤ 4096
unfolding folded_to
folded_to_within w zero p hw hp = hp
folded_to_within w (suc j) p hw hp = folded_within (w - j) (folded_to w j p) (omega arith)

-- S of the first of v bits at p, by the side of zero; d is the distance from there, s the strength
module _ (v p d s : ℕ) (far : d ≡ (p - 2048) + (2048 - p)) (strong : s ≡ strength v d) where
  pub side_below : p < 2048 → (up v p ≡ 0) × (down v p ≡ s)
  unfolding up down
  side_below h =
      let none : p - 2048 ≡ 0 = omega arith in
      let all : d ≡ 2048 - p = omega arith in
      (rw none (strength_none v), sym (rw all at strong))

  pub side_above : 2048 ≤ p → (up v p ≡ s) × (down v p ≡ 0)
  unfolding up down
  side_above h =
      let none : 2048 - p ≡ 0 = omega arith in
      let all : d ≡ p - 2048 = omega arith in
      (sym (rw all at strong), rw none (strength_none v))

-- 1024 times a difference
scaled : (a b u d : ℕ) → a + 1024 * d ≡ b + 1024 * u → pos 1024 *ℤ (pos u -ℤ pos d) ≡ pos a -ℤ pos b
scaled a b u d e = go (ltb u d) refl
  where
    go : (t : Bool) → ltb u d ≡ t → pos 1024 *ℤ (pos u -ℤ pos d) ≡ pos a -ℤ pos b
    go true t =
        let h : u < d = ltb-true u d t in
        rw (less_neg u d h, less_neg a b (omega arith)) (neg_is (1024 * suc (d - suc u)) (b - suc a) (omega arith))
    go false t =
        let h : d ≤ u = ltb-false u d t in
        rw (less_pos u d h, less_pos a b (omega arith)) (ap pos (omega arith))

-- and back
over_1024 : (z : ℤ) → quot_z (pos 1024 *ℤ z) (pos 1024) ≡ z
over_1024 (pos n) = ap pos (omega arith)
over_1024 (negsuc n) =
    rw (neg_is (1024 * suc n) (1024 * n + 1023) (omega arith))
    (neg_is (suc (1024 * n + 1023) / 1024) n (omega arith))

-- a difference of which one side is zero, rounded
rounded_up : (u : ℕ) → rounded (pos u -ℤ pos 0) ≡ pos (near u) -ℤ pos 0
unfolding rounded
rounded_up u = simp add-zero

rounded_down : (d : ℕ) → rounded (pos 0 -ℤ pos d) ≡ pos 0 -ℤ pos (near d)
unfolding rounded
rounded_down zero = refl
rounded_down (suc d) = ap rounded (+ℤ_idl (negsuc d)) ∙ sym (+ℤ_idl (neg_ℤ (pos (near (suc d)))))

rounded_apart : (v x : ℕ) → rounded (pos (up v x) -ℤ pos (down v x)) ≡ pos (near (up v x)) -ℤ pos (near (down v x))
rounded_apart v x = go (ltb x 2048) refl
  where
    go : (t : Bool) → ltb x 2048 ≡ t
        → rounded (pos (up v x) -ℤ pos (down v x)) ≡ pos (near (up v x)) -ℤ pos (near (down v x))
    go true t =
        let side = side_below v x _ _ refl refl (ltb-true x 2048 t) in
        rw side.0 (rounded_down (down v x))
    go false t =
        let side = side_above v x _ _ refl refl (ltb-false x 2048 t) in
        rw side.1 (rounded_up (up v x))

-- a reading held, counted from -2,048, after j folds
abbrev pub held_to : (w j : ℕ) → ℤ → ℕ
held_to w j r = folded_to w j (counted 2048 (held r))

module _ (w j : ℕ) (r : ℤ) (hj : j < w) (hw : w ≤ 3) where
  differs : pos 1024 *ℤ (pos (up (w - j) (held_to w j r)) -ℤ pos (down (w - j) (held_to w j r)))
      ≡ pos (least_to w j 0 (held r)) -ℤ pos (least_to w j 1 (held r))
  differs = scaled _ _ _ _ (rw (held_back r) at (closed_at tested w j (counted 2048 (held r)) hj hw (held_within r)))

  pub s_closed : s_of w j r ≡ pos (up (w - j) (held_to w j r)) -ℤ pos (down (w - j) (held_to w j r))
  unfolding s_of
  s_closed = rw (← differs) (over_1024 _)

  -- S is a whole number
  pub whole : pos 1024 *ℤ s_of w j r ≡ pos (least_to w j 0 (held r)) -ℤ pos (least_to w j 1 (held r))
  whole = rw s_closed differs

  pub soft_closed : soft_byte w j r ≡ pos (near (up (w - j) (held_to w j r))) -ℤ pos (near (down (w - j) (held_to w j r)))
  unfolding soft_byte
  soft_closed = rw s_closed (rounded_apart (w - j) (held_to w j r))

  pub up_within : up (w - j) (held_to w j r) ≤ 5120
  unfolding up
  up_within =
      let held : held_to w j r ≤ 4096 = folded_to_within w j (counted 2048 (held r)) hw (held_within r) in
      strength_most (w - j) (held_to w j r - 2048) (omega arith) (omega arith)

  pub down_within : down (w - j) (held_to w j r) ≤ 5120
  unfolding down
  down_within = strength_most (w - j) (2048 - held_to w j r) (omega arith) (omega arith)

  pub byte_closed : soft_from w (counted 2048 (held r)) j ≡ soft_byte w j r
  unfolding byte_from soft_from
  byte_closed =
      less_from 128 (near (up (w - j) (held_to w j r))) (near (down (w - j) (held_to w j r))) (omega (arith, down_within))
      ∙ sym soft_closed

-- a turn of the loop over the bits of a held reading: p is folded once more, and x is the byte of bit j, z its soft byte
module _ (w j held p : ℕ) (so_far : p ≡ folded_to w j held) where
  pub folded_next : (q : ℕ) → q ≡ folded (w - j) p → q ≡ folded_to w (j + 1) held
  unfolding folded_to
  folded_next q e = rw (add-one j, ← so_far) e

  pub soft_next : (x : ℕ) (z : ℤ) → x ≡ byte_from (w - j) p → z ≡ pos x -ℤ pos 128 → z ≡ soft_from w held j
  unfolding soft_from
  soft_next x z ex ez = rw (← so_far, ← ex) ez
