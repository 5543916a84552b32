-- Laws of bits in bytes: the value of a group, its place, and the test that bytes are bits.
-- Assumes nothing.
use mathlib.Core.Path.{◌≡◌, refl, sym}
use mathlib.Core.Bool.{Bool, true, false, ◌&&◌, false≢true}
use mathlib.Core.List.{List, [], ◌∷◌}
use Prim.Native.Nat.{ℕ, zero, suc, ◌+◌, ◌*◌, ◌^◌, ◌<◌, ◌≤◌}
use native.Mathlib.Nat.{pow-suc, mul-suc, mul-le-mul_left, le_trans, zero-add}
use native.Mathlib.Numerals.{add-one}
use native.Mathlib.Omega.{arith}
use lib.Dec.{ltb}
use lib.ListN.{length, get_or, take, drop, length-take, length-drop}
use lib.Pow.{pow_mono}
use lib.Seq.{get_or-take, get_or-drop}
use borrow.Author.Tests.{ltb-true, lt-ltb}
use Rattle.std.proofs.lemmas.Bool.{false_from_ne_true}
use Rattle.std.specs.Prelude.{◌↔◌, IsTrue, EachIndex, slice_index}
use Rattle.laws.specs.Packing.{written}
use Rattle.points.specs.Levels.{value_of, all_bits}

value_bound : (l : List ℕ) → ((i : ℕ) → get_or l i 0 < 256) → (from k : ℕ) → value_of l from k + 255 ≤ 255 * 2 ^ k
unfolding written
value_bound l byte from zero = omega arith
value_bound l byte from (suc k) = rw (pow-suc 2 k) (omega (arith, value_bound l byte from k, byte (from + k)))

-- one bit more, and six bytes at most make a small value
pub value_next : (l : List ℕ) (from k : ℕ) → 2 * value_of l from k + get_or l (from + k) 0 ≡ value_of l from (k + 1)
unfolding written
value_next l from k = rw (add-one k)

pub value_small : (l : List ℕ) → ((i : ℕ) → get_or l i 0 < 256) → (from k : ℕ)
    → k < 6
    → 2 * value_of l from k + get_or l (from + k) 0 < 2 ^ 14
unfolding written
value_small l byte from k h =
    let p : 2 ^ suc k ≤ 2 ^ 6 = pow_mono h in
    omega (arith, value_bound l byte from (suc k))

-- the bits of a part are those of the whole from its beginning on
part_value : (l : List ℕ) (from n b : ℕ) → b ≤ n → value_of (take n (drop from l)) 0 b ≡ value_of l from b
unfolding written
part_value l from n zero h = refl
part_value l from n (suc b) h =
    rw (part_value l from n b (omega arith), zero-add b, get_or-take, get_or-drop)

pub value_part : (l : List ℕ) (from b n : ℕ) → n ≡ b → from + b ≤ length l
    → value_of (take n (drop from l)) 0 (length (take n (drop from l))) ≡ value_of l from b
value_part l from b n e room =
    let all : length (take n (drop from l)) ≡ b = simp (length-take, length-drop) (omega arith) in
    rw all (part_value l from n b (omega arith))

-- the group of one carrier among so many lies within their bits
pub group_within : (b carriers k : ℕ) {n : ℕ} → k < carriers → b * carriers ≤ n → b * k + b ≤ n
group_within b carriers k h enough = rw (← mul-suc b k) (le_trans (mul-le-mul_left b h) enough)

-- what the test says of every byte, and back
pub bits_are : (l : List ℕ) → all_bits l ≡ true → (k : ℕ) → get_or l k 0 < 2
unfolding all_bits
bits_are [] e k = omega arith
bits_are (x ∷ l) e k = go (ltb x 2) refl e k (bits_are l)
  where
    go : (z : Bool) → ltb x 2 ≡ z → (z && all_bits l) ≡ true → (k : ℕ) → (all_bits l ≡ true → (j : ℕ) → get_or l j 0 < 2) → get_or (x ∷ l) k 0 < 2
    go true z e zero rest = ltb-true x 2 z
    go true z e (suc k) rest = rest e k
    go false z e k rest = absurd (false≢true e)

pub bits_all : (l : List ℕ) → ((k : ℕ) → k < length l → get_or l k 0 < 2) → all_bits l ≡ true
unfolding all_bits
bits_all [] low = refl
bits_all (x ∷ l) low = rw (lt-ltb x 2 (low zero (omega arith))) (bits_all l (λ k h. low (suc k) (omega arith)))

-- the test by its outcome
pub bits_by : (l : List ℕ) (r : Bool) → (IsTrue r ↔ EachIndex l (λ k. slice_index l k < 2)) → r ≡ all_bits l
bits_by l true h = sym (bits_all l (h.0 refl))
bits_by l false h = sym (false_from_ne_true (all_bits l) (λ e. false≢true (h.1 (λ k _. bits_are l e k))))
