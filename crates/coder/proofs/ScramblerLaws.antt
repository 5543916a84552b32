-- The scrambler where it is initialised at bit `first`: one turn, what goes unscrambled, and that from the first bit on it is document 01's.
-- Assumes nothing.
use mathlib.Core.Path.{◌≡◌, refl}
use mathlib.Core.Bool.{Bool, true, false}
use mathlib.Core.List.{List}
use Prim.Native.Nat.{ℕ, suc, ◌+◌, ◌-◌, ◌%◌, ◌≤◌, ◌<◌}
use native.Mathlib.Nat.{sub-zero}
use native.Mathlib.Omega.{arith}
use lib.Dec.{ltb}
use borrow.Author.Tests.{ltb-true, ltb-false, lt-ltb, le-ltb}
use Rattle.laws.specs.Lists.{choose}
use Rattle.laws.proofs.ListLaws.{tabulate_ext}
use Rattle.coder.specs.Scrambler.{bit_of, output, shifted, state, state_at, Rested, scrambled_bit, scrambled, mask, masked_bit, scrambled_from}

-- the state at the first bit
pub state_first : (first counter t : ℕ) → t ≡ first → 112 + counter ≡ state_at first counter t
unfolding state_at state
state_first first counter t e = let none : t - first ≡ 0 = omega arith in rw (le-ltb t first (omega arith), none) refl

-- before it the scrambler rests
pub rested_start : (first counter : ℕ) → Rested first counter 0 0
unfolding state_at
rested_start first counter other = rw (lt-ltb 0 first (omega arith)) refl

-- what bit t is xored with is the output
pub output_mask : (first counter t : ℕ) → output (state_at first counter t) ≡ mask first counter t
unfolding state_at mask
output_mask first counter t = go (ltb t first)
  where
    go : (b : Bool) → output (choose b 0 (state counter (t - first))) ≡ choose b 0 (output (state counter (t - first)))
    go true = refl
    go false = refl

-- and the state behind bit t
pub rested_next : (first counter t : ℕ) → Rested first counter (suc t) (shifted (state_at first counter t))
unfolding state_at state
rested_next first counter t other = go (ltb t first) refl
  where
    go : (b : Bool) → ltb t first ≡ b → shifted (choose b 0 (state counter (t - first))) ≡ choose (ltb (suc t) first) 0 (state counter (suc t - first))
    go true h =
        let early : t < first = ltb-true t first h in
        rw (lt-ltb (suc t) first (omega arith)) refl
    go false h =
        let late : first ≤ t = ltb-false t first h in
        let up : suc t - first ≡ suc (t - first) = omega arith in
        rw (le-ltb (suc t) first (omega arith), up) refl

-- the mask of the bits from the first on
pub mask_behind : (first counter t : ℕ) → mask first counter (first + t) ≡ output (state counter t)
unfolding mask
mask_behind first counter t =
    let back : first + t - first ≡ t = omega arith in
    rw (le-ltb (first + t) first (omega arith), back) refl

-- a bit before the first goes as it is
pub plain_bit : (first counter : ℕ) (octets : List ℕ) (t : ℕ) → t < first → masked_bit first counter octets t ≡ bit_of octets t
unfolding masked_bit mask
plain_bit first counter octets t h = rw (lt-ltb t first h) (omega arith)

-- from the first on each is xored with one output
pub masked_behind : (first counter : ℕ) (octets : List ℕ) (t : ℕ) → masked_bit first counter octets (first + t) ≡ (bit_of octets (first + t) + output (state counter t)) % 2
unfolding masked_bit
masked_behind first counter octets t = rw (mask_behind first counter t) refl

-- scrambled from the first bit on: document 01's train
pub from_the_first : (counter N : ℕ) (octets : List ℕ) → scrambled_from 0 counter N octets ≡ scrambled counter N octets
unfolding scrambled_from scrambled masked_bit mask scrambled_bit
from_the_first counter N octets = tabulate_ext N _ _ (λ t h. at t)
  where
    at : (t : ℕ) → masked_bit 0 counter octets t ≡ scrambled_bit counter octets t
    at t = rw (le-ltb t 0 (omega arith), sub-zero t) refl
