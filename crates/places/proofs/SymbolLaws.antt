-- The interleaver within a symbol, for the modes 1 to 7: every bit has a place of its own, and `seated` takes it back.
-- Assumes nothing.
use mathlib.Core.Path.{◌≡◌, ◌∙◌}
use mathlib.Core.Bool.{Bool}
use Prim.Native.Nat.{ℕ, zero, suc, ◌≤◌, ◌<◌}
use mathlib.Core.List.{List}
use lib.Dec.{T}
use lib.ListN.{length, get_or, length-set, length-replicate}
use Rattle.laws.proofs.Tables.{below, below_at}
use Rattle.modes.specs.Modes.{row_of, table1, no_mode, bits, bits_in, sent, sent_in}
use Rattle.modes.proofs.ModeLaws.{by_mode}
use Rattle.places.specs.Selection.{goes_to, find, later}
use Rattle.places.specs.Interleaver.{unit, first_step, second_step, place_in_symbol, seated}
use Rattle.places.proofs.BlockLaws.{is_at, is_at_at, sound, find_at, entry}

-- the bits of a mode's symbol, in the order in which they stand when all have gone to their places
abbrev pub symbol : ℕ → List ℕ
symbol k = seated (sent k) (bits k) (sent k)

-- where bit m of a mode's symbol goes
abbrev pub in_symbol : ℕ → ℕ → ℕ
in_symbol k m = place_in_symbol (sent k) (bits k) m

-- bit m of a mode's symbol is found at its place
placed : ℕ → ℕ → Bool
placed k m = is_at (in_symbol k m) (find m (symbol k))

tested : (k : ℕ) → 1 ≤ k → k ≤ 7 → T (sound (symbol k) (sent k)) × T (below (placed k) (sent k))
unfolding placed unit first_step second_step place_in_symbol seated find later bits bits_in sent sent_in row_of table1 no_mode
tested = by_mode _ (tt, tt) (tt, tt) (tt, tt) (tt, tt) (tt, tt) (tt, tt) (tt, tt)

pub seated_length : (S b n : ℕ) → length (seated S b n) ≡ S
unfolding seated
seated_length S b zero = length-replicate S 0
seated_length S b (suc n) = length-set (seated S b n) (place_in_symbol S b n) n ∙ seated_length S b n

module _ (k : ℕ) (low : 1 ≤ k) (high : k ≤ 7) where
  pub symbol_sound : T (sound (symbol k) (sent k))
  symbol_sound = (tested k low high).0

  pub symbol_found : (m : ℕ) → m < sent k → find m (symbol k) ≡ goes_to (in_symbol k m)
  unfolding placed
  symbol_found m h = is_at_at (in_symbol k m) (find m (symbol k)) (below_at (placed k) (sent k) (tested k low high).1 m h)

  pub symbol_place_within : (m : ℕ) → m < sent k → in_symbol k m < sent k
  symbol_place_within m h = rw seated_length at (find_at m (symbol k) (in_symbol k m) (symbol_found m h)).0

  pub symbol_place_back : (m : ℕ) → m < sent k → get_or (symbol k) (in_symbol k m) 0 ≡ m
  symbol_place_back m h = (find_at m (symbol k) (in_symbol k m) (symbol_found m h)).1

  bit_at_place : (j : ℕ) → j < sent k → (get_or (symbol k) j 0 < sent k) × (find (get_or (symbol k) j 0) (symbol k) ≡ goes_to j)
  bit_at_place j h = entry (symbol k) (sent k) symbol_sound j (rw seated_length h)

  pub symbol_back_within : (j : ℕ) → j < sent k → get_or (symbol k) j 0 < sent k
  symbol_back_within j h = (bit_at_place j h).0

  pub symbol_back_place : (j : ℕ) → j < sent k → in_symbol k (get_or (symbol k) j 0) ≡ j
  symbol_back_place j h =
      let (inside, there) = bit_at_place j h in
      cc (symbol_found (get_or (symbol k) j 0) inside)
