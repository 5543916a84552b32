-- What a record's line can be: one thing only; and a line that is not refused has cost 0 and is confirmed.
-- Assumes nothing.
use mathlib.Core.Path.{◌≡◌, refl, sym, ◌∙◌}
use mathlib.Core.Bool.{true}
use mathlib.Core.List.{List, [], ◌∷◌}
use Prim.Native.Nat.{ℕ, zero, suc, ◌+◌, ◌<◌}
use native.Mathlib.Omega.{arith}
use lib.ListN.{get_or, take, drop}
use lib.Seq.{get_or-drop}
use Rattle.laws.proofs.AnswerLaws.{fixed}
use Rattle.modes.specs.Sizes.{symbols, sent_bits, octets_of}
use Rattle.modem.specs.OneMode.{Wanted, DecodeReadings}
use Rattle.record.proofs.RunLaws.{run_back}
use Rattle.record.specs.Record.{mode_of, counter_of, length_of, place_of, octets_used, Line, Run, LineOf}

-- what is taken of bytes is bytes
take_low : (n : ℕ) (l : List ℕ) → ((k : ℕ) → get_or l k 0 < 256) → (k : ℕ) → get_or (take n l) k 0 < 256
take_low zero l low k = omega arith
take_low (suc n) [] low k = omega arith
take_low (suc n) (x ∷ xs) low zero = low 0
take_low (suc n) (x ∷ xs) low (suc k) = take_low n xs (λ j. low (suc j)) k

used_low : (bytes : List ℕ) → ((k : ℕ) → get_or bytes k 0 < 256) → (k : ℕ) → get_or (octets_used bytes) k 0 < 256
unfolding octets_used
used_low bytes low = take_low (octets_of (length_of bytes)) (drop 6 bytes) (λ j. rw (get_or-drop 6 bytes j 0) (low (6 + j)))

-- the line of a run: the train's symbols and sent bits, no cost, confirmed
record Whole (mode N : ℕ) (l : Line) : Type 0 where
  all_symbols : l.symbols ≡ symbols mode N
  all_sent : l.n ≡ sent_bits mode N
  no_cost : l.cost ≡ 0
  sure : l.confirmed ≡ true

run_whole : (mode counter N a : ℕ) (octets : List ℕ) (l : Line) → ((k : ℕ) → get_or octets k 0 < 256) → Run mode counter N a octets l → Whole mode N l
unfolding DecodeReadings Wanted
run_whole mode counter N a octets l low run =
    let (no_cost, sure) = run_back mode counter N a octets l low run in
    let told = run.decoded.done refl in
    record { all_symbols = told.all_symbols; all_sent = told.all_sent; no_cost = no_cost; sure = sure }

module _ (bytes : List ℕ) (low : (k : ℕ) → get_or bytes k 0 < 256) where
  -- a line that is not refused: what was sent came back
  pub line_confirmed : (l : Line) → LineOf bytes 0 l → (l.cost ≡ 0) × (l.confirmed ≡ true)
  unfolding LineOf
  line_confirmed l h = let w = run_whole _ _ _ _ _ l (used_low bytes low) (h.done refl) in (w.no_cost, w.sure)

  -- two lines that are allowed are the same
  pub line_determined : (r r' : ℕ) (l l' : Line) → LineOf bytes r l → LineOf bytes r' l' → (r ≡ r') × (l ≡ l')
  unfolding LineOf
  line_determined r r' l l' =
      fixed _ (Run (mode_of bytes) (counter_of bytes) (length_of bytes) (place_of bytes) (octets_used bytes)) _
      (λ _ x y p q.
      let v = run_whole _ _ _ _ _ x (used_low bytes low) p in
      let w = run_whole _ _ _ _ _ y (used_low bytes low) q in
      λ t.
      record {
        symbols = (v.all_symbols ∙ sym w.all_symbols) t;
        n = (v.all_sent ∙ sym w.all_sent) t;
        cost = (v.no_cost ∙ sym w.no_cost) t;
        confirmed = (v.sure ∙ sym w.sure) t;
      })
      r r' l l'
