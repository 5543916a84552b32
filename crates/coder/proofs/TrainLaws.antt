-- The inputs of the encoder: a train's scrambled bits and then the tail.
-- Assumes nothing.
use mathlib.Core.Path.{◌≡◌, refl, ◌∙◌}
use mathlib.Core.Bool.{Bool, true, false}
use mathlib.Core.List.{List}
use Prim.Native.Nat.{ℕ, zero, suc, ◌+◌, ◌-◌, ◌≤◌, ◌<◌}
use native.Mathlib.Omega.{arith}
use lib.Dec.{ltb}
use borrow.Author.Tests.{ltb-true, ltb-false}
use lib.ListN.{length, get_or, get_or-append}
use lib.Seq.{get_or-append-add}
use Rattle.laws.specs.Lists.{choose, tabulate}
use Rattle.laws.proofs.ListLaws.{tabulate_length, tabulate_at}
use Rattle.coder.specs.Scrambler.{masked_bit, scrambled_from}
use Rattle.coder.specs.Encoder.{tail, tailed}
use Rattle.coder.specs.Train.{Train}
use Rattle.coder.proofs.EncoderLaws.{Bits}

-- the tail is zeros, and so is what would follow it
tail_zero : (k : ℕ) → get_or tail k 0 ≡ 0
unfolding tail
tail_zero zero = refl
tail_zero (suc zero) = refl
tail_zero (suc (suc zero)) = refl
tail_zero (suc (suc (suc zero))) = refl
tail_zero (suc (suc (suc (suc zero)))) = refl
tail_zero (suc (suc (suc (suc (suc zero))))) = refl
tail_zero (suc (suc (suc (suc (suc (suc k)))))) = refl

pub tailed_before : (w : List ℕ) (t : ℕ) → t < length w → get_or (tailed w) t 0 ≡ get_or w t 0
unfolding tailed
tailed_before w t h = get_or-append w _ 0 t h

pub tailed_after : (w : List ℕ) (t : ℕ) → length w ≤ t → get_or (tailed w) t 0 ≡ 0
unfolding tailed
tailed_after w t h =
    let e : length w + (t - length w) ≡ t = omega arith in
    rw e at (get_or-append-add w tail (t - length w) 0 ∙ tail_zero (t - length w))

-- the tail is bits too, and so is what stands behind it
pub tailed_bits : {N : ℕ} {w : List ℕ} → Train N w → Bits (tailed w)
tailed_bits {N} {w} train t = go (ltb t (length w)) refl
  where
    go : (x : Bool) → ltb t (length w) ≡ x → get_or (tailed w) t 0 < 2
    go true e = let h : t < length w = ltb-true t (length w) e in rw (tailed_before w t h) (train.low t (omega (arith, train.count)))
    go false e = omega (arith, tailed_after w t (ltb-false t (length w) e))

module _ (N : ℕ) (f : ℕ → ℕ) where
  -- bits make a train
  pub tabulate_train : ((k : ℕ) → f k < 2) → Train N (tabulate N f)
  tabulate_train bits = record { count = tabulate_length N f; low = λ k h. rw (tabulate_at N f k 0 h) (bits k) }

  -- and zeros follow it
  pub tailed_tabulate : (k : ℕ) → get_or (tailed (tabulate N f)) k 0 ≡ choose (ltb k N) (f k) 0
  tailed_tabulate k = go (ltb k N) refl
    where
      go : (x : Bool) → ltb k N ≡ x → get_or (tailed (tabulate N f)) k 0 ≡ choose x (f k) 0
      go true e =
          tailed_before (tabulate N f) k (rw (tabulate_length N f) (ltb-true k N e)) ∙ tabulate_at N f k 0 (ltb-true k N e)
      go false e = tailed_after (tabulate N f) k (rw (tabulate_length N f) (ltb-false k N e))

-- input t is a bit with its mask below N, and a zero from there on
pub input_at : (first counter N : ℕ) (octets : List ℕ) (t : ℕ)
    → get_or (tailed (scrambled_from first counter N octets)) t 0 ≡ choose (ltb t N) (masked_bit first counter octets t) 0
unfolding scrambled_from
input_at first counter N octets = tailed_tabulate N (masked_bit first counter octets)

masked_bit_lem : (first counter : ℕ) (octets : List ℕ) (t : ℕ) → masked_bit first counter octets t < 2
unfolding masked_bit
masked_bit_lem first counter octets t = omega arith

-- octets scrambled are a train
pub scrambled_train : (first counter N : ℕ) (octets : List ℕ) → Train N (scrambled_from first counter N octets)
unfolding scrambled_from
scrambled_train first counter N octets = tabulate_train N (masked_bit first counter octets) (masked_bit_lem first counter octets)

-- every input is a bit
pub input_bits : (first counter N : ℕ) (octets : List ℕ) → Bits (tailed (scrambled_from first counter N octets))
input_bits first counter N octets = tailed_bits (scrambled_train first counter N octets)
