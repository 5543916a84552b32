-- Whether a selection gives a bit a place, part by part.
--   kept  a selection gives a bit a place
--   Sent  the same, with the place
-- Assumes nothing.
use mathlib.Core.Path.{◌≡◌, refl, ap, ◌∙◌}
use mathlib.Core.Bool.{Bool, true, false}
use mathlib.Core.List.{List}
use Prim.Native.Nat.{ℕ, ◌*◌, ◌/◌, ◌%◌, ◌≤◌}
use native.Mathlib.Nat.{mod-lt}
use lib.Dec.{T}
use lib.ListN.{length}
use Rattle.modes.specs.Modes.{rate_of, bits, sent}
use Rattle.places.specs.Selection.{Place, goes_to, dropped, later, onwards, find, Selection, blocks, after, place}
use Rattle.places.specs.Puncture.{p2}
use Rattle.places.specs.Interleaver.{interleaver}
use Rattle.places.specs.Trains.{pdu}
use Rattle.places.proofs.SymbolLaws.{symbol, symbol_found}
use Rattle.places.proofs.TrainLaws.{sent_some}

-- not dropped
abbrev pub is_place : Place → Bool
is_place (goes_to j) = true
is_place dropped = false

-- a selection gives the bit m a place
abbrev pub kept : Selection → ℕ → Bool
kept f m = is_place (place f m)

pub is_place_later : (o : ℕ) (p : Place) → is_place (later o p) ≡ is_place p
unfolding later
is_place_later o (goes_to j) = refl
is_place_later o dropped = refl

is_place_onwards : (p : Place) (g : ℕ → Place) → ((j : ℕ) → is_place (g j) ≡ true) → is_place (onwards p g) ≡ is_place p
unfolding onwards
is_place_onwards (goes_to j) g all_kept = all_kept j
is_place_onwards dropped g all_kept = refl

pub kept_blocks : (l : List ℕ) (period m : ℕ) → kept (blocks l period) m ≡ is_place (find (m % period) l)
unfolding place
kept_blocks l period m = is_place_later (length l * (m / period)) (find (m % period) l)

-- the interleaver drops nothing
pub kept_pdu : (k : ℕ) → 1 ≤ k → k ≤ 7 → (m : ℕ) → kept (pdu k) m ≡ kept (p2 (rate_of k)) m
unfolding pdu place interleaver
kept_pdu k low high m = is_place_onwards (place (p2 (rate_of k)) m) (place (interleaver (sent k) (bits k))) all_kept
  where
    all_kept : (j : ℕ) → kept (interleaver (sent k) (bits k)) j ≡ true
    all_kept j = kept_blocks (symbol k) (sent k) j ∙ ap is_place (symbol_found k low high (j % sent k) (mod-lt j (sent_some k low high)))

-- the bit m goes out, and where
pub record Sent (f : Selection) (m : ℕ) : Type 0 where
  pub at : ℕ
  pub there : place f m ≡ goes_to at

pub kept_sent : (f : Selection) (m : ℕ) → T (kept f m) → Sent f m
kept_sent f m t = go (place f m) refl t
  where
    go : (p : Place) → place f m ≡ p → T (is_place p) → Sent f m
    go (goes_to q) e t = record { at = q; there = e }
    go dropped e t = absurd t

pub sent_after : {f g : Selection} {m j : ℕ} → place f m ≡ goes_to j → Sent g j → Sent (after f g) m
unfolding place onwards
sent_after e s = record { at = s.at; there = rw (e, onwards) s.there }
