-- Scrambling loses nothing, and bits determine octets: octets with the same scrambled bits are the same.
-- Assumes nothing.
use mathlib.Core.Path.{◌≡◌, sym, ap, ◌∙◌}
use mathlib.Core.List.{List}
use Prim.Native.Nat.{ℕ, ◌+◌, ◌-◌, ◌*◌, ◌/◌, ◌%◌, ◌^◌, ◌<◌}
use native.Mathlib.Omega.{arith}
use lib.Dec.{eqb, eqb→eq}
use lib.ListN.{length, get_or}
use lib.Seq.{ext_get_or}
use Rattle.laws.specs.Sums.{total}
use Rattle.laws.proofs.ListLaws.{tabulate_at}
use Rattle.laws.proofs.SumLaws.{total_ext}
use Rattle.laws.proofs.Tables.{below_at}
use Rattle.modes.specs.Sizes.{octets_of}
use Rattle.coder.specs.Scrambler.{bit_of, mask, masked_bit, scrambled_from}
use Rattle.unique.specs.Sameness.{Octets}

-- one output added to two bits
same_sum : (x y z : ℕ) → x < 2 → y < 2 → (x + z) % 2 ≡ (y + z) % 2 → x ≡ y
same_sum x y z hx hy e = omega arith

-- the bits that were scrambled
same_bits : (first counter N : ℕ) (s r : List ℕ) → scrambled_from first counter N s ≡ scrambled_from first counter N r → (t : ℕ) → t < N → bit_of s t ≡ bit_of r t
unfolding scrambled_from masked_bit
same_bits first counter N s r e t h =
    same_sum (bit_of s t) (bit_of r t) (mask first counter t) (omega arith) (omega arith)
    (sym (tabulate_at N (masked_bit first counter s) t 0 h) ∙ ap (λ l. get_or l t 0) e ∙ tabulate_at N (masked_bit first counter r) t 0 h)

-- an octet put together from its bits, most significant bit first
joined : ℕ → ℕ
joined x = total 8 (λ i. x / 2 ^ (7 - i) % 2 * 2 ^ (7 - i))

joined_back : (x : ℕ) → x < 256 → joined x ≡ x
unfolding joined total
joined_back x h = eqb→eq (joined x) x (below_at (λ x. eqb (joined x) x) 256 tt x h)

same_octet : (x y : ℕ) → x < 256 → y < 256 → ((i : ℕ) → i < 8 → x / 2 ^ (7 - i) % 2 ≡ y / 2 ^ (7 - i) % 2) → x ≡ y
unfolding joined
same_octet x y hx hy same = sym (joined_back x hx) ∙ total_ext 8 _ _ (λ i h. ap (λ b. b * 2 ^ (7 - i)) (same i h)) ∙ joined_back y hy

-- bit i of octet j
bit_of_octet : (s : List ℕ) (j i : ℕ) → i < 8 → bit_of s (8 * j + i) ≡ get_or s j 0 / 2 ^ (7 - i) % 2
bit_of_octet s j i h =
    let octet : (8 * j + i) / 8 ≡ j = omega arith in
    let inside : (8 * j + i) % 8 ≡ i = omega arith in
    rw (octet, inside)

pub octets_back : (first counter N : ℕ) → N % 8 ≡ 0 → (s r : List ℕ) → Octets (octets_of N) s → Octets (octets_of N) r
    → scrambled_from first counter N s ≡ scrambled_from first counter N r → s ≡ r
unfolding octets_of
octets_back first counter N whole s r hs hr e = ext_get_or 0 s r (hs.count ∙ sym hr.count) at
  where
    at : (j : ℕ) → j < length s → get_or s j 0 ≡ get_or r j 0
    at j h =
        let hj : j < N / 8 = omega (arith, hs.count) in
        same_octet (get_or s j 0) (get_or r j 0) (hs.low j hj) (hr.low j hj)
        (λ i hi. sym (bit_of_octet s j i hi) ∙ same_bits first counter N s r e (8 * j + i) (omega arith) ∙ bit_of_octet r j i hi)
