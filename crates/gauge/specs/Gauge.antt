-- What the search's C names promise.
--   unfit         the answer to what is not fit to be searched
--   Fit, Lengths  n is in range, and the buffers have the lengths that it needs
--   Gauged        the search's promise where the lengths are fit; else the answer is `unfit` and nothing is changed
--   Marks         the mark's promise, as 1 or 0, where the lengths are fit and the train is bits; else the answer is `unfit`
-- Assumes nothing.
use Rattle.std.specs.Prelude.{◌≡◌, true, false, ◌⊎◌, List, ℕ, ◌+◌, ◌*◌, ◌≤◌, length, take}
use Rattle.coder.specs.Train.{Train}
use Rattle.search.specs.Promises.{Searched, Marked}

-- the answer to what is not fit to be searched
abbrev pub unfit : ℕ
unfit = 4294967295

-- n is in range, two bytes for each step, and room for the train
pub record Fit (n heard train : ℕ) : Type 0 where
  pub range : n ≤ 3472
  pub pairs : heard ≡ 2 * (n + 6)
  pub room : n ≤ train

-- the same of the buffers
abbrev pub Lengths : ℕ → List ℕ → List ℕ → Type 0
Lengths n heard train = Fit n (length heard) (length train)

-- the search, or nothing
pub record Gauged (n : ℕ) (heard train words : List ℕ) (r : ℕ) (train' words' : List ℕ) : Type 0 where
  pub fit : Lengths n heard train → n + 6 ≤ length words → Searched n heard train train' words words' r
  pub not_fit : (Lengths n heard train → n + 6 ≤ length words → ⊥) → (r ≡ unfit) × (train' ≡ train) × (words' ≡ words)

-- the mark, or nothing
pub record Marks (n : ℕ) (heard train : List ℕ) (r : ℕ) : Type 0 where
  pub fit : Lengths n heard train → Train n (take n train) → (r ≡ 1 × Marked n heard (take n train) true) ⊎ (r ≡ 0 × Marked n heard (take n train) false)
  pub not_fit : (Lengths n heard train → Train n (take n train) → ⊥) → r ≡ unfit
