-- The tests of a count and two arrays, PDU by PDU: which answer a turn gives, and where the ladder has come to after k turns.
-- Assumes nothing.
use mathlib.Core.Path.{◌≡◌, refl, sym, ◌∙◌, ap}
use mathlib.Core.Bool.{Bool, true, false}
use mathlib.Core.List.{List, [], ◌∷◌}
use Prim.Native.Nat.{ℕ, ◌+◌, ◌≤◌, ◌<◌}
use native.Mathlib.Omega.{arith}
use lib.ListN.{length, get_or, take, drop}
use borrow.Author.Tests.{lt-ltb, le-ltb}
use Rattle.std.proofs.lemmas.List.{length-take, get_or-take}
use Rattle.laws.specs.Ladder.{Rung, ◌when◌, ladder}
use Rattle.laws.proofs.LadderLaws.{ladder_passed}
use Rattle.modes.specs.Modes.{info}
use Rattle.modes.specs.Pdus.{Pdu, pdu_of, pdus_of, length_of}
use Rattle.modes.specs.Refusals.{mode_unknown, lengths, modes_tests, lengths_tests, list_tests, first_mode}
use Rattle.modes.proofs.PduLaws.{pdus_of_length, pdus_of_at, sum_take, sum_all}
use Rattle.modes.proofs.RefusalLaws.{modes_on, modes_stop, modes_end, lengths_on, lengths_stop, lengths_end, list_inside, list_some, list_passed, known_at}

module _ (count : ℕ) (modes lens : List ℕ) where
  abbrev ps : List Pdu
  ps = pdus_of count modes lens

  abbrev none : Pdu
  none = pdu_of 0 0

  within : (k : ℕ) → k < count → k < length ps
  within k h = omega (arith, pdus_of_length count modes lens)

  -- where the tests of modes, and of lengths, have come to
  abbrev pub ModesTo : ℕ → Type 0
  ModesTo k = ladder (modes_tests ps) ≡ ladder (modes_tests (drop k ps))

  abbrev pub LengthsTo : ℕ → Type 0
  LengthsTo k = ladder (lengths_tests ps) ≡ ladder (lengths_tests (drop k ps))

  pub list_1_to_16 : 1 ≤ count → count ≤ 16 → ladder (list_tests ps) ≡ ladder (modes_tests ps)
  list_1_to_16 low high = list_inside ps (omega (arith, pdus_of_length count modes lens)) (omega (arith, pdus_of_length count modes lens))

  -- what a list that passes has
  pub list_count : ladder (list_tests ps) ≡ 0 → count ≤ 16
  list_count passes = omega (arith, (list_passed ps passes).0, pdus_of_length count modes lens)

  pub list_modes : ladder (list_tests ps) ≡ 0 → ladder (modes_tests ps) ≡ 0
  list_modes passes = (list_passed ps passes).1

  pub list_first : ladder (list_tests ps) ≡ 0 → first_mode ps ≡ get_or modes 0 0
  list_first passes = ap (λ (p : Pdu). p.mode) (pdus_of_at count modes lens 0 none (omega (arith, list_some ps passes, pdus_of_length count modes lens)))

  pub list_empty : count < 1 → ladder (list_tests ps) ≡ 11
  unfolding list_tests ladder
  list_empty h = simp (lt-ltb (length ps) 1 (omega (arith, pdus_of_length count modes lens)))

  pub list_above : 1 ≤ count → 16 < count → ladder (list_tests ps) ≡ 11
  unfolding list_tests ladder
  list_above low h =
      simp (le-ltb (length ps) 1 (omega (arith, pdus_of_length count modes lens)), lt-ltb 16 (length ps) (omega (arith, pdus_of_length count modes lens)))

  module _ (k : ℕ) (h : k < count) where
    at : get_or ps k none ≡ pdu_of (get_or modes k 0) (get_or lens k 0)
    at = pdus_of_at count modes lens k none h

    -- what a mode's number alone is tested for
    abbrev tested : Bool → List Rung
    tested unknown = (1 when unknown) ∷ []

    pub mode_on : ModesTo k → ladder (tested (mode_unknown (get_or modes k 0))) ≡ 0 → ModesTo (k + 1)
    mode_on so passes = modes_on ps k none (within k h) so (rw at (ladder_passed 0 _ [] passes).0)

    pub mode_stop : (r : ℕ) → ModesTo k → r ≡ ladder (tested (mode_unknown (get_or modes k 0))) → (r ≡ 0 → ⊥) → r ≡ ladder (modes_tests ps)
    unfolding ladder
    mode_stop r so e refused = go (mode_unknown (get_or modes k 0)) refl e
      where
        go : (b : Bool) → mode_unknown (get_or modes k 0) ≡ b → r ≡ ladder (tested b) → r ≡ ladder (modes_tests ps)
        go true known e = e ∙ sym (modes_stop ps k none (within k h) so (rw at known))
        go false known e = absurd (refused e)

    pub mode_known : ladder (modes_tests ps) ≡ 0 → (1 ≤ get_or modes k 0) × (get_or modes k 0 ≤ 7)
    mode_known zeros = rw at at (known_at ps zeros k none (within k h))

    pub length_on : LengthsTo k → ladder (lengths (info (get_or modes k 0)) (get_or lens k 0)) ≡ 0 → LengthsTo (k + 1)
    length_on so passes = lengths_on ps k none (within k h) so (rw at passes)

    pub length_stop : (r : ℕ) → LengthsTo k → r ≡ ladder (lengths (info (get_or modes k 0)) (get_or lens k 0)) → (r ≡ 0 → ⊥) → r ≡ ladder (lengths_tests ps)
    length_stop r so e refused =
        let here : r ≡ ladder (lengths (info (get_or ps k none).mode) (get_or ps k none).length) = rw at e in
        here ∙ sym (lengths_stop ps k none (within k h) so (λ z. refused (here ∙ z)))

    -- the sum of one length more
    pub length_added : (n : ℕ) → n ≡ length_of (take k ps) → n + get_or lens k 0 ≡ length_of (take (k + 1) ps)
    length_added n e = omega (arith, sum_take (λ p. p.length) ps k none (within k h), ap (λ (p : Pdu). p.length) at)

  pub modes_done : (k : ℕ) → count ≤ k → ModesTo k → ladder (modes_tests ps) ≡ 0
  modes_done k h so = modes_end ps k (omega (arith, pdus_of_length count modes lens)) so

  pub lengths_done : (k : ℕ) → count ≤ k → LengthsTo k → ladder (lengths_tests ps) ≡ 0
  lengths_done k h so = lengths_end ps k (omega (arith, pdus_of_length count modes lens)) so

  pub length_all : (k : ℕ) → count ≤ k → length_of (take k ps) ≡ length_of ps
  length_all k h = sum_all (λ p. p.length) ps k (omega (arith, pdus_of_length count modes lens))

-- an entry of the part of an array that counts
module _ (count : ℕ) (l : List ℕ) (k : ℕ) (h : k < length (take count l)) where
  pub counted_within : k < count
  counted_within = omega (arith, length-take count l)

  pub counted_at : get_or (take count l) k 0 ≡ get_or l k 0
  counted_at = get_or-take count l k 0 counted_within

-- a turn past the last of them
pub counted_past : (count : ℕ) (l : List ℕ) (k : ℕ) → count ≤ length l → length (take count l) ≤ k → count ≤ k
counted_past count l k h past = omega (arith, length-take count l)
