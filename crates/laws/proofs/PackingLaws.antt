-- Laws of packed and of written bits: their bound, one bit read, all of them, two parts joined and taken apart.
-- Assumes nothing.
use mathlib.Core.Path.{◌≡◌, refl, ap, ap₂, ◌∙◌}
use Prim.Native.Nat.{ℕ, zero, suc, ◌+◌, ◌-◌, ◌*◌, ◌/◌, ◌%◌, ◌^◌, ◌<◌}
use native.Mathlib.Nat.{not-suc-le-zero, add-zero, add-suc, add_assoc, pow-suc, pow-succ', mul-add, mul_assoc, mul_left_comm, div-div-eq-div-mul}
use native.Mathlib.Omega.{arith}
use lib.Pow.{pow-add, high, low}
use Rattle.laws.specs.Packing.{packed, written}

-- the bits alone tell
pub packed_ext : (n : ℕ) (f g : ℕ → ℕ) → ((s : ℕ) → s < n → f s ≡ g s) → packed n f ≡ packed n g
unfolding packed
packed_ext zero f g same = refl
packed_ext (suc n) f g same =
    ap₂ ◌+◌ (packed_ext n f g (λ s h. same s (omega arith))) (ap (λ (x : ℕ). x * 2 ^ n) (same n (omega arith)))

pub packed_low : (n : ℕ) (f : ℕ → ℕ) → ((s : ℕ) → f s < 2) → packed n f < 2 ^ n
unfolding packed
packed_low zero f bits = omega arith
packed_low (suc n) f bits = rw (pow-suc 2 n) (go (packed_low n f bits) (f n) (bits n))
  where
    go : packed n f < 2 ^ n → (x : ℕ) → x < 2 → packed n f + x * 2 ^ n < 2 ^ n * 2
    go h zero hx = omega arith
    go h (suc zero) hx = omega arith
    go h (suc (suc x)) hx = absurd (omega arith)

-- the lowest bit first
packed_first : (n : ℕ) (f : ℕ → ℕ) → packed (suc n) f ≡ f 0 + 2 * packed n (λ s. f (suc s))
unfolding packed
packed_first zero f = omega arith
packed_first (suc n) f = rw (packed_first n f, pow-suc 2 n) (go (f (suc n)) (2 ^ n))
  where
    go : (x p : ℕ) → f 0 + 2 * packed n (λ s. f (suc s)) + x * (p * 2) ≡ f 0 + 2 * (packed n (λ s. f (suc s)) + x * p)
    go x p = omega (arith, mul_assoc x p 2)

-- one bit read
pub packed_bit : (n : ℕ) (f : ℕ → ℕ) → ((s : ℕ) → f s < 2) → (s : ℕ) → s < n → packed n f / 2 ^ s % 2 ≡ f s
packed_bit zero f bits s h = absurd (not-suc-le-zero h)
packed_bit (suc n) f bits zero h = rw (packed_first n f) (omega (arith, bits 0))
packed_bit (suc n) f bits (suc s) h =
    let half : (f 0 + 2 * packed n (λ k. f (suc k))) / 2 ≡ packed n (λ k. f (suc k)) = omega (arith, bits 0) in
    rw (packed_first n f, pow-succ' 2 s, ← div-div-eq-div-mul (f 0 + 2 * packed n (λ k. f (suc k))) 2 (2 ^ s), half)
    (packed_bit n (λ k. f (suc k)) (λ k. bits (suc k)) s (omega arith))

-- a number is its bits, packed
pub packed_bits : (n v : ℕ) → v < 2 ^ n → packed n (λ i. v / 2 ^ i % 2) ≡ v
unfolding packed
packed_bits zero v h = omega arith
packed_bits (suc n) v h =
    let higher : (i : ℕ) → i < n → v / 2 ^ suc i % 2 ≡ v / 2 / 2 ^ i % 2 = λ i _. rw (pow-succ' 2 i, ← div-div-eq-div-mul v 2 (2 ^ i)) in
    packed_first n (λ i. v / 2 ^ i % 2)
    ∙ rw (packed_ext n _ _ higher, packed_bits n (v / 2) (omega (arith, rw (pow-suc 2 n) at h))) (omega arith)

-- two parts joined
pub packed_join : (m n : ℕ) (f : ℕ → ℕ) → packed (m + n) f ≡ packed m f + 2 ^ m * packed n (λ s. f (m + s))
unfolding packed
packed_join m zero f = rw (add-zero m) (omega arith)
packed_join m (suc n) f = rw (add-suc m n, packed_join m n f, pow-add 2 m n) (go (f (m + n)) (2 ^ n) (2 ^ m) (packed n (λ s. f (m + s))))
  where
    go : (x a b y : ℕ) → packed m f + b * y + x * (b * a) ≡ packed m f + b * (y + x * a)
    go x a b y = rw (mul-add b y (x * a), mul_left_comm x b a) (omega arith)

-- bits written one after the other
written_join : (f : ℕ → ℕ) (from m n : ℕ) → written f from (m + n) ≡ written f from m * 2 ^ n + written f (from + m) n
unfolding written
written_join f from m zero = rw (add-zero m) (omega arith)
written_join f from m (suc n) = rw (add-suc, written_join f from m n, add_assoc, pow-suc 2 n) (omega arith)

module _ (f : ℕ → ℕ) (bits : (t : ℕ) → f t < 2) where
  pub written_low : (from n : ℕ) → written f from n < 2 ^ n
  unfolding written
  written_low from zero = omega arith
  written_low from (suc n) = rw (pow-suc 2 n) (omega (arith, written_low from n, bits (from + n)))

  -- the first m of them, and the last n
  pub written_first : (from m n : ℕ) → written f from (m + n) / 2 ^ n ≡ written f from m
  written_first from m n = rw (written_join f from m n) (high (written f from m) n (written_low (from + m) n))

  pub written_last : (from m n : ℕ) → written f from (m + n) % 2 ^ n ≡ written f (from + m) n
  written_last from m n = rw (written_join f from m n) (low (written f from m) n (written_low (from + m) n))

  -- and each can be read back
  pub written_bit : (from n j : ℕ) → j < n → written f from n / 2 ^ (n - 1 - j) % 2 ≡ f (from + j)
  unfolding written
  written_bit from n j h =
      let e : n ≡ suc j + (n - 1 - j) = omega arith in
      ap (λ k. written f from k / 2 ^ (n - 1 - j) % 2) e
      ∙ rw (written_first from (suc j) (n - 1 - j)) (omega (arith, bits (from + j)))
