-- A record's line: what it is where a test refuses the record, and where none does.
-- Assumes nothing.
use mathlib.Core.Path.{◌≡◌, refl, sym, ◌∙◌}
use mathlib.Core.Bool.{false}
use mathlib.Core.List.{List, [], ◌∷◌}
use Prim.Native.Nat.{ℕ, ◌+◌, ◌-◌, ◌/◌, ◌≤◌, ◌<◌}
use native.Mathlib.Omega.{arith}
use lib.ListN.{length, take, drop, length-take, length-drop}
use borrow.Author.Tests.{ltb-false, lt-ltb, le-ltb}
use Rattle.laws.specs.Ladder.{◌when◌, ladder}
use Rattle.laws.proofs.AnswerLaws.{refused_with, done_with}
use Rattle.laws.proofs.LadderLaws.{ladder_passed, ladder_stops}
use Rattle.modes.specs.Sizes.{octets_of}
use Rattle.modes.specs.Refusals.{mode_unknown, described, encode_described}
use Rattle.modes.specs.declared.Kind.TheVariants.{Data}
use Rattle.modes.specs.Pdus.{pdus_of}
use Rattle.modes.specs.Passed.{told}
use Rattle.modes.proofs.RefusalLaws.{one_described}
use Rattle.laws.specs.Lists.{tabulate}
use Rattle.record.specs.Said.{Fields, said}
use Rattle.record.specs.Record.{mode_of, counter_of, length_of, place_of, octets_used, line_refusal, Line, line, Run, LineOf}

-- not refused: the description passes, and N is 432 at most
pub line_passed : (mode counter N a : ℕ) → line_refusal mode counter N a ≡ 0 → (ladder (described mode counter N a) ≡ 0) × (N ≤ 432)
unfolding line_refusal
line_passed mode counter N a h =
    let p1 = ladder_passed 0 _ _ h in
    let p2 = ladder_passed 1 _ _ p1.1 in
    let p3 = ladder_passed 2 _ _ p2.1 in
    (p3.1, ltb-false 432 N p3.0)

-- the tests one by one: which of them is the answer
module _ (mode counter N a : ℕ) where
  abbrev pub ModeAnswers : ℕ → Type 0
  ModeAnswers r = r ≡ ladder ((1 when mode_unknown mode) ∷ [])

  pub line_mode : (r : ℕ) → ModeAnswers r → (r ≡ 0 → ⊥) → r ≡ line_refusal mode counter N a
  unfolding line_refusal
  line_mode r e h = e ∙ sym (ladder_stops ((1 when mode_unknown mode) ∷ []) _ (λ z. h (e ∙ z)))

  known : ModeAnswers 0 → mode_unknown mode ≡ false
  known e = (ladder_passed 0 _ [] (sym e)).0

  pub line_counter : ModeAnswers 0 → 15 < counter → 2 ≡ line_refusal mode counter N a
  unfolding line_refusal ladder
  line_counter e h = rw (known e) (simp (lt-ltb 15 counter h) refl)

  pub line_long : ModeAnswers 0 → counter ≤ 15 → 432 < N → 3 ≡ line_refusal mode counter N a
  unfolding line_refusal ladder
  line_long e low h = rw (known e) (simp (le-ltb 15 counter low, lt-ltb 432 N h) refl)

  pub line_rest : ModeAnswers 0 → counter ≤ 15 → N ≤ 432 → (r : ℕ) → r ≡ ladder (described mode counter N a) → r ≡ line_refusal mode counter N a
  unfolding line_refusal ladder
  line_rest e low small r rest = rest ∙ rw (known e) (simp (le-ltb 15 counter low, le-ltb 432 N small) refl)

-- what is tested of a list of one PDU is what is tested of document 01's train
pub one_answers : (mode counter N a r : ℕ) → r ≡ ladder (encode_described Data (told (said mode counter N a).list) counter a) → r ≡ ladder (described mode counter N a)
unfolding pdus_of tabulate encode_described
one_answers mode counter N a r e = e ∙ one_described mode counter N a

used : (bytes : List ℕ) → take (6 + length_of bytes / 8 - 6) (drop 6 bytes) ≡ octets_used bytes
unfolding octets_used octets_of
used bytes = let e : 6 + length_of bytes / 8 - 6 ≡ length_of bytes / 8 = omega arith in rw e

-- the octets that are used are as many as the train has
pub octets_whole : (bytes : List ℕ) (N : ℕ) → length bytes ≡ 60 → N ≤ 432 → length (take (6 + N / 8 - 6) (drop 6 bytes)) ≡ octets_of N
unfolding octets_of
octets_whole bytes N e h = simp (length-take, length-drop) (omega arith)

module _ (bytes : List ℕ) (mode counter N a : ℕ) (f : Fields bytes mode counter N a) where
  same_refusal : line_refusal mode counter N a ≡ line_refusal (mode_of bytes) (counter_of bytes) (length_of bytes) (place_of bytes)
  same_refusal = rw (f.mode_is, f.counter_is, f.n_is, f.a_is)

  pub line_refused : (r : ℕ) → r ≡ line_refusal mode counter N a → (r ≡ 0 → ⊥) → LineOf bytes r (line 0 0 0 false)
  unfolding LineOf
  line_refused r e h = refused_with _ _ (line 0 0 0 false) r (e ∙ same_refusal) h

  pub line_done : (l : Line) → line_refusal mode counter N a ≡ 0 → Run mode counter N a (take (6 + N / 8 - 6) (drop 6 bytes)) l → LineOf bytes 0 l
  unfolding LineOf
  line_done l z run = (done_with _ _ (line 0 0 0 false) l (sym same_refusal ∙ z) (rw (f.mode_is, f.counter_is, f.n_is, f.a_is, used bytes) at run))
