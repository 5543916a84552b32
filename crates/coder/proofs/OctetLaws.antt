-- A scrambled train back to octets: each turn, and that scrambling the octets gives the train.
-- Assumes nothing.
use mathlib.Core.Path.{◌≡◌, refl, sym, ◌∙◌, ap}
use mathlib.Core.List.{List}
use Prim.Native.Nat.{ℕ, suc, ◌+◌, ◌-◌, ◌*◌, ◌/◌, ◌%◌, ◌^◌, ◌<◌}
use native.Mathlib.Nat.{add-zero, pow-suc}
use native.Mathlib.Numerals.{add-one}
use native.Mathlib.Omega.{arith}
use lib.ListN.{length, get_or, take, set, length-set}
use lib.Seq.{ext_get_or, get_or-take}
use borrow.Author.Tests.{lt-ltb}
use Rattle.laws.specs.Lists.{tabulate, filled}
use Rattle.laws.specs.Packing.{written}
use Rattle.laws.proofs.PackingLaws.{written_low, written_bit}
use Rattle.laws.proofs.ListLaws.{tabulate_length, tabulate_at, filled_none, filled_put}
use Rattle.coder.specs.Scrambler.{bit_of, output, shifted, state_at, Rested, mask, masked_bit, scrambled_from, descrambled_bit, octet_at}
use Rattle.coder.specs.Train.{Train}
use Rattle.coder.proofs.ScramblerLaws.{rested_start, output_mask, rested_next}

descrambled_bit_lem : (first counter : ℕ) (w : List ℕ) (t : ℕ) → descrambled_bit first counter w t < 2
unfolding descrambled_bit
descrambled_bit_lem first counter w t = omega arith

pub octet_low : (first counter : ℕ) (w : List ℕ) (k : ℕ) → octet_at first counter w k < 256
unfolding octet_at
octet_low first counter w k = written_low (descrambled_bit first counter w) (descrambled_bit_lem first counter w) (8 * k) 8

twice : (x z : ℕ) → x < 2 → ((x + z) % 2 + z) % 2 ≡ x
twice x z h = omega arith

-- bit t of the octets, when there are enough
pub octets_bit : (first counter n : ℕ) (w : List ℕ) (t : ℕ) → t / 8 < n → bit_of (tabulate n (octet_at first counter w)) t ≡ descrambled_bit first counter w t
unfolding octet_at
octets_bit first counter n w t h =
    let e : 8 * (t / 8) + t % 8 ≡ t = omega arith in
    let low : t % 8 < 8 = omega arith in
    ap (λ (x : ℕ). x / 2 ^ (7 - t % 8) % 2) (tabulate_at n (octet_at first counter w) (t / 8) 0 h)
    ∙ written_bit (descrambled_bit first counter w) (descrambled_bit_lem first counter w) (8 * (t / 8)) 8 (t % 8) low
    ∙ ap (descrambled_bit first counter w) e

-- a bit before the first comes back as it is
pub descrambled_plain : (first counter : ℕ) (w : List ℕ) (t : ℕ) → t < first → get_or w t 0 < 2 → descrambled_bit first counter w t ≡ get_or w t 0
unfolding descrambled_bit mask
descrambled_plain first counter w t h low = rw (lt-ltb t first h) (omega arith)

-- the octets of a train, scrambled, are the train
pub scrambled_back : (first counter N : ℕ) (w : List ℕ) → N % 8 ≡ 0 → Train N (take N w)
    → scrambled_from first counter N (tabulate (N / 8) (octet_at first counter w)) ≡ take N w
unfolding scrambled_from masked_bit descrambled_bit
scrambled_back first counter N w whole train =
    ext_get_or 0 _ _ (tabulate_length N _ ∙ sym train.count) (λ t h. at t (rw (tabulate_length N _) at h))
  where
    at : (t : ℕ) → t < N → get_or (tabulate N (masked_bit first counter (tabulate (N / 8) (octet_at first counter w)))) t 0 ≡ get_or (take N w) t 0
    at t h =
        let low : get_or w t 0 < 2 = rw (get_or-take N w t 0 h) at (train.low t h) in
        tabulate_at N _ t 0 h
        ∙ ap (λ (x : ℕ). (x + mask first counter t) % 2) (octets_bit first counter (N / 8) w t (omega arith))
        ∙ twice (get_or w t 0) (mask first counter t) low
        ∙ sym (get_or-take N w t 0 h)

-- j bits of octet k are written
pub record Writing (first counter : ℕ) (w : List ℕ) (k octet s j : ℕ) : Type 0 where
  pub scrambler : Rested first counter (8 * k + j) s
  pub bits : octet ≡ written (descrambled_bit first counter w) (8 * k) j
  pub small : octet < 2 ^ j

pub writing_none : (first counter : ℕ) (w : List ℕ) (k s : ℕ) → Rested first counter (8 * k) s → Writing first counter w k 0 s 0
unfolding written
writing_none first counter w k s rested = record { scrambler = rw (add-zero (8 * k)) rested; bits = refl; small = omega arith }

pub writing_again : (first counter : ℕ) (w : List ℕ) (k octet s s' m j : ℕ) → Writing first counter w k octet s j
    → m ≡ output (state_at first counter (8 * k + j))
    → s' ≡ shifted (state_at first counter (8 * k + j))
    → Writing first counter w k (2 * octet + (get_or w (8 * k + j) 0 + m) % 2) s' (j + 1)
unfolding written descrambled_bit
writing_again first counter w k octet s s' m j h em es =
    let up : 8 * k + (j + 1) ≡ suc (8 * k + j) = omega arith in
    let is_mask : m ≡ mask first counter (8 * k + j) = em ∙ output_mask first counter (8 * k + j) in
    record {
      scrambler = rw (up, es) (rested_next first counter (8 * k + j));
      bits = rw (add-one j, is_mask, ← h.bits) refl;
      small = rw (add-one j, pow-suc 2 j) (omega (arith, h.small));
    }

-- k octets stand in the buffer
pub record Descrambling (first counter : ℕ) (w l₀ l : List ℕ) (s k : ℕ) : Type 0 where
  pub scrambler : Rested first counter (8 * k) s
  pub octets : l ≡ filled k (octet_at first counter w) l₀
  pub long : length l ≡ length l₀

pub descrambling_none : (first counter : ℕ) (w l : List ℕ) → Descrambling first counter w l l 0 0
descrambling_none first counter w l =
    record { scrambler = rested_start first counter; octets = sym (filled_none (octet_at first counter w) l); long = refl }

pub descrambling_again : (first counter : ℕ) (w l₀ l : List ℕ) (s s' octet k : ℕ) → Descrambling first counter w l₀ l s k → k < length l₀
    → octet ≡ octet_at first counter w k
    → Rested first counter (8 * k + 8) s'
    → Descrambling first counter w l₀ (set l k octet) s' (k + 1)
descrambling_again first counter w l₀ l s s' octet k h more is rested =
    let e : 8 * (k + 1) ≡ 8 * k + 8 = omega arith in
    record {
      scrambler = rw e rested;
      octets = filled_put k (octet_at first counter w) l₀ l octet h.octets is more;
      long = length-set l k octet ∙ h.long;
    }
