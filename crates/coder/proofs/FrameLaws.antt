-- The frame counter in a train's first four bits, n4 first.
-- Assumes nothing.
use mathlib.Core.Path.{◌≡◌, refl, ◌∙◌}
use mathlib.Core.List.{List, [], ◌∷◌}
use Prim.Native.Nat.{ℕ, ◌-◌, ◌/◌, ◌%◌, ◌^◌, ◌≤◌, ◌<◌}
use native.Mathlib.Omega.{arith}
use lib.Dec.{eqb, eqb→eq, lit<}
use lib.ListN.{length, get_or}
use Rattle.laws.specs.Lists.{tabulate}
use Rattle.laws.specs.Packing.{written}
use Rattle.laws.proofs.Tables.{below_at}
use Rattle.laws.proofs.ListLaws.{tabulate_at}
use Rattle.coder.specs.Scrambler.{bit_of, masked_bit, scrambled_from, octet_at, frame_counter}
use Rattle.coder.proofs.ScramblerLaws.{plain_bit}
use Rattle.coder.proofs.OctetLaws.{octets_bit, descrambled_plain}

-- no octet: the counter is 0
pub counter_none : (octets : List ℕ) → length octets < 1 → 0 ≡ frame_counter (bit_of octets)
unfolding frame_counter written
counter_none [] h = refl
counter_none (x ∷ octets) h = absurd (omega arith)

-- the upper half of the first octet, tried at all octets
pub counter_octet : (octets : List ℕ) → get_or octets 0 0 < 256 → get_or octets 0 0 / 16 ≡ frame_counter (bit_of octets)
unfolding frame_counter written
counter_octet octets h = eqb→eq _ _ (below_at (λ x. eqb (x / 16) (frame_counter (λ t. x / 2 ^ (7 - t) % 2))) 256 tt (get_or octets 0 0) h)

-- the same four bits write the same number
pub counter_same : (f g : ℕ → ℕ) → ((t : ℕ) → t < 4 → f t ≡ g t) → frame_counter f ≡ frame_counter g
unfolding frame_counter written
counter_same f g same = omega (arith, same 0 (lit< tt), same 1 (lit< tt), same 2 (lit< tt), same 3 (lit< tt))

-- where they go unscrambled, the train has the octets' counter
pub counter_entering : (first counter N : ℕ) (octets : List ℕ) → 4 ≤ first → 4 ≤ N
    → frame_counter (λ t. get_or (scrambled_from first counter N octets) t 0) ≡ frame_counter (bit_of octets)
unfolding scrambled_from
counter_entering first counter N octets plain long =
    counter_same _ _ (λ t h. tabulate_at N (masked_bit first counter octets) t 0 (omega arith) ∙ plain_bit first counter octets t (omega arith))

-- and the octets of a train have the train's counter
pub counter_back : (first counter n : ℕ) (w : List ℕ) → 4 ≤ first → 1 ≤ n → ((t : ℕ) → t < 4 → get_or w t 0 < 2)
    → frame_counter (bit_of (tabulate n (octet_at first counter w))) ≡ frame_counter (λ t. get_or w t 0)
counter_back first counter n w plain some low =
    counter_same _ _ (λ t h. octets_bit first counter n w t (omega arith) ∙ descrambled_plain first counter w t (omega arith) (low t h))
