-- The word of a step's choices: sixteen bytes of four bits make one word of 64.
-- Assumes nothing.
use Rattle.std.proofs.Common.{◌≡◌, ℕ, zero, suc, ◌+◌, ◌*◌, ◌/◌, ◌^◌, ◌<◌, ◌≤◌, Bool, true, false, ltb, List, get_or, refl, ap, ◌∙◌, mul-suc, arith, ltb-false, ltb-true}
use Rattle.laws.specs.Lists.{choose}
use Rattle.laws.specs.Packing.{packed}
use Rattle.laws.specs.Sums.{total}
use Rattle.laws.proofs.PackingLaws.{packed_ext, packed_join}
use Rattle.search.specs.Stored.{width, half, top}
use Rattle.search.specs.Words.{four_bits, Chosen, eight_bytes, seat}

pub top_is : (g : ℕ) → g < width → g / half ≡ top g
unfolding top
top_is g h = go (ltb g half) refl
  where
    go : (z : Bool) → ltb g half ≡ z → g / half ≡ choose z 0 1
    go true e = omega (arith, ltb-true g half e)
    go false e = omega (arith, ltb-false g half e)

pub top_bit : (g : ℕ) → top g < 2
unfolding top
top_bit g = go (ltb g half)
  where
    go : (z : Bool) → choose z 0 1 < 2
    go true = omega arith
    go false = omega arith

-- bits in parts of eight
packed_parts : (n : ℕ) (f : ℕ → ℕ) → packed (8 * n) f ≡ total n (λ c. 2 ^ (8 * c) * packed 8 (λ q. f (8 * c + q)))
unfolding total packed
packed_parts zero f = refl
packed_parts (suc n) f = rw (mul-suc 8 n) (packed_join (8 * n) 8 f ∙ ap (λ (x : ℕ). x + 2 ^ (8 * n) * packed 8 (λ q. f (8 * n + q))) (packed_parts n f))

module _ (f : ℕ → ℕ) (bytes : List ℕ) (chosen : Chosen f bytes) where
  pub chosen_small : (j : ℕ) → j < 16 → get_or bytes j 0 ≤ 85
  chosen_small j h =
      omega (arith, chosen.four j h, top_bit (f j), top_bit (f (j + 16)), top_bit (f (j + 32)), top_bit (f (j + 48)))

  -- the states c, c + 8, .., c + 56
  column : (c : ℕ) → c < 8 → get_or bytes c 0 + 2 * get_or bytes (8 + c) 0 ≡ packed 8 (λ q. top (f (seat (8 * c + q))))
  unfolding packed
  column c h =
      let g : ℕ → ℕ = λ q. top (f (c + 8 * q)) in
      let first : c + 8 * 0 ≡ c = omega arith in
      let turn : c + 8 ≡ 8 + c = omega arith in
      let up : 8 + c + 16 ≡ c + 24 = omega arith in
      let up_2 : 8 + c + 32 ≡ c + 40 = omega arith in
      let up_3 : 8 + c + 48 ≡ c + 56 = omega arith in
      let even : get_or bytes c 0 ≡ four_bits (g 0) (g 2) (g 4) (g 6) = rw first (chosen.four c (omega arith)) in
      let odd : get_or bytes (8 + c) 0 ≡ four_bits (g 1) (g 3) (g 5) (g 7) = rw (turn, ← up, ← up_2, ← up_3) (chosen.four (8 + c) (omega arith)) in
      let whole : get_or bytes c 0 + 2 * get_or bytes (8 + c) 0 ≡ packed 8 g = omega (arith, even, odd) in
      let place : (q : ℕ) → q < 8 → c + 8 * q ≡ seat (8 * c + q) = λ q hq. omega arith in
      whole ∙ packed_ext 8 g _ (λ q hq. ap (λ (k : ℕ). top (f k)) (place q hq))

  pub word_packed : eight_bytes bytes 0 + 2 * eight_bytes bytes 8 ≡ packed 64 (λ p. top (f (seat p)))
  unfolding total
  word_packed =
      rw (packed_parts 8 (λ p. top (f (seat p))))
      (omega (
        arith,
        column 0 (omega arith),
        column 1 (omega arith),
        column 2 (omega arith),
        column 3 (omega arith),
        column 4 (omega arith),
        column 5 (omega arith),
        column 6 (omega arith),
        column 7 (omega arith),
      ))
