-- What a pass keeps of a number f s for each state s, made four states at a time.
--   Four         the numbers of the states j, j + 16, j + 32 and j + 48
--   Quarters     the numbers themselves, of the fours below j
--   Choosing     which way is the better one, of the fours below j
--   quarters_all, choosing_all  of all sixteen fours
-- Assumes nothing.
use Rattle.std.specs.Prelude.{◌≡◌, ℕ, ◌+◌, ◌*◌, ◌/◌, ◌%◌, ◌<◌, List, length, slice_index}
use Rattle.std.proofs.Common.{arith}
use Rattle.search.specs.Stored.{top, Stored}
use Rattle.search.specs.Words.{four_bits, Chosen}

-- the numbers of the states j, j + 16, j + 32 and j + 48
pub record Four (f : ℕ → ℕ) (j : ℕ) (four : List ℕ) : Type 0 where
  pub first : slice_index four 0 ≡ f j
  pub second : slice_index four 1 ≡ f (j + 16)
  pub third : slice_index four 2 ≡ f (j + 32)
  pub fourth : slice_index four 3 ≡ f (j + 48)

-- the entries i, i + 16, i + 32 and i + 48 are made for each i below j
pub record Quarters (f : ℕ → ℕ) (j : ℕ) (l : List ℕ) : Type 0 where
  pub all : length l ≡ 64
  pub made : (i q : ℕ) → i < j → q < 4 → slice_index l (i + 16 * q) ≡ f (i + 16 * q)

-- the choices of the states i, i + 16, i + 32 and i + 48 are made for each i below j
pub record Choosing (f : ℕ → ℕ) (j : ℕ) (bytes : List ℕ) : Type 0 where
  pub sixteen : length bytes ≡ 16
  pub made : (i : ℕ) → i < j → slice_index bytes i ≡ four_bits (top (f i)) (top (f (i + 16))) (top (f (i + 32))) (top (f (i + 48)))

pub quarters_all : (f : ℕ → ℕ) (l : List ℕ) → Quarters f 16 l → Stored f l
quarters_all f l quarters =
    record {
      all = quarters.all;
      at = λ s hs. let e : s % 16 + 16 * (s / 16) ≡ s = omega arith in rw e at (quarters.made (s % 16) (s / 16) (omega arith) (omega arith));
    }

pub choosing_all : (f : ℕ → ℕ) (bytes : List ℕ) → Choosing f 16 bytes → Chosen f bytes
choosing_all f bytes choosing = record { sixteen = choosing.sixteen; four = choosing.made }
