-- What the search promises to other crates.
--   Searched  the train of n bits that is wanted, its cost, and what is left in the lent buffers
--   Marked    the mark says whether the train is confirmed
-- Assumes nothing.
use Rattle.std.specs.Prelude.{◌≡◌, ℕ, ◌+◌, Bool, true, List, take, drop}
use Rattle.laws.specs.Lists.{filled}
use Rattle.trellis.specs.Wanted.{Returned, Confirmed}
use Rattle.trellis.specs.Heard.{train_cost, differing}
use Rattle.search.specs.Bytes.{cost_of, heard_of}

-- the first n bytes of `train` are the train that is wanted, and those behind them are as they were before; n + 6 words are zero, and
-- those behind them as they were before
pub record Searched (n : ℕ) (heard before train words_before words : List ℕ) (cost : ℕ) : Type 0 where
  pub returned : Returned n (train_cost (cost_of heard) n) (take n train)
  pub costs : cost ≡ train_cost (cost_of heard) n (take n train)
  pub kept : drop n train ≡ drop n before
  pub zeroed : words ≡ filled (n + 6) (λ t. 0) words_before

-- confirmed exactly where the train is
pub record Marked (n : ℕ) (heard train : List ℕ) (confirmed : Bool) : Type 0 where
  pub only_then : confirmed ≡ true → Confirmed n (train_cost (cost_of heard) n) (differing (heard_of heard) n) train
  pub always_then : Confirmed n (train_cost (cost_of heard) n) (differing (heard_of heard) n) train → confirmed ≡ true
