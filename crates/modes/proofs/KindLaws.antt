-- The tests of a description by its kind: where the ladder has come to, and what "not refused" gives.
-- Assumes nothing.
use mathlib.Core.Path.{◌≡◌, refl, sym, ◌∙◌, ap}
use mathlib.Core.Bool.{false}
use mathlib.Core.List.{List, [], ◌∷◌, ◌++◌, append_assoc}
use Prim.Native.Nat.{ℕ}
use native.Mathlib.Omega.{arith}
use lib.Dec.{T}
use lib.ListN.{length}
use borrow.Author.Tests.{eqb-true, not-false}
use Rattle.laws.specs.Ladder.{Rung, ◌when◌, ladder, given}
use Rattle.laws.proofs.LadderLaws.{numbered, numbered_both, ladder_passed, ladder_front, ladder_goes_on, ladder_idle, ladder_under, given_stops, given_goes_on, given_passed}
use Rattle.modes.specs.declared.Kind.{Kind}
use Rattle.modes.specs.declared.Kind.TheVariants.{Data, Bch}
use Rattle.modes.specs.Pdus.{Pdu, one, sum_of, length_of}
use Rattle.modes.specs.Kinds.{heeded, other_than}
use Rattle.modes.specs.Refusals.{counter_above, length_outside, place_above, list_tests, lengths_tests, list_sized, list_described, first_mode, bch_test, encode_described, decode_described}
use Rattle.modes.specs.Description.{LegalList}
use Rattle.modes.proofs.RefusalLaws.{neither, numbered_modes, numbered_lengths, described_then, sized_then, described_by, described_sized, list_legal}

-- what follows the tests of the lengths
abbrev after_lengths : Kind → List Pdu → ℕ → List Rung
after_lengths kind ps a =
    (3 when length_outside (length_of ps)) ∷ (6 when place_above (length_of ps) a) ∷ (12 when other_than kind (length ps) (length_of ps) (first_mode ps) a) ∷ []

-- the whole ladder, with what is tested PDU by PDU as one rung each
encode_by : (kind : Kind) (ps : List Pdu) (counter a : ℕ)
    → ladder (encode_described kind ps counter a)
    ≡ ladder (given (ladder (list_tests ps)) ∷ (2 when counter_above counter) ∷ given (ladder (lengths_tests ps)) ∷ after_lengths kind ps a)
unfolding encode_described list_described
encode_by Data ps counter a = described_by ps counter a ∙ sym (ladder_idle _ 12)
encode_by Bch ps counter a =
    let last : List Rung = (3 when length_outside (length_of ps)) ∷ (6 when place_above (length_of ps) a) ∷ [] in
    let two : Rung = 2 when counter_above counter in
    ap ladder
    (append_assoc (list_tests ps) (two ∷ (lengths_tests ps ++ last)) (bch_test ps a)
    ∙ ap (λ (rest : List Rung). list_tests ps ++ (two ∷ rest)) (append_assoc (lengths_tests ps) last (bch_test ps a)))
    ∙ described_then ps counter (after_lengths Bch ps a)

-- a counter that passes
untested : (rest : List Rung) → ladder ((2 when false) ∷ rest) ≡ ladder rest
unfolding ladder
untested rest = refl

heeded_known : (kind : Kind) (counter : ℕ) → counter_above counter ≡ false → counter_above (heeded kind counter) ≡ false
heeded_known Data counter known = known
heeded_known Bch counter known = refl

-- with 0 for the counter, its test refuses nothing: what encoding is then tested for is what decoding is
pub heeded_described : (kind : Kind) (ps : List Pdu) (counter a : ℕ)
    → ladder (encode_described kind ps (heeded kind counter) a) ≡ ladder (decode_described kind ps counter a)
unfolding encode_described decode_described list_sized
heeded_described Data ps counter a = refl
heeded_described Bch ps counter a =
    let last : List Rung = (3 when length_outside (length_of ps)) ∷ [] in
    let six : Rung = 6 when place_above (length_of ps) a in
    encode_by Bch ps 0 a
    ∙ ladder_under _ _ _ (untested (given (ladder (lengths_tests ps)) ∷ after_lengths Bch ps a))
    ∙ sym
    (ap ladder
    (append_assoc (list_tests ps) (lengths_tests ps ++ last) (six ∷ bch_test ps a)
    ∙ ap (λ (rest : List Rung). list_tests ps ++ rest) (append_assoc (lengths_tests ps) last (six ∷ bch_test ps a)))
    ∙ sized_then ps (after_lengths Bch ps a))

-- what encoding does not refuse, decoding does not
pub decode_passes : (kind : Kind) (ps : List Pdu) (counter a : ℕ) → ladder (encode_described kind ps counter a) ≡ 0 → ladder (decode_described kind ps counter a) ≡ 0
decode_passes kind ps counter a zero =
    let (tests, p) = given_passed _ _ (sym (encode_by kind ps counter a) ∙ zero) in
    let (known, p) = ladder_passed 1 _ _ p in
    sym (heeded_described kind ps counter a)
    ∙ encode_by kind ps (heeded kind counter) a
    ∙ given_goes_on _ _ tests
    ∙ rw (heeded_known kind counter known) (untested (given (ladder (lengths_tests ps)) ∷ after_lengths kind ps a))
    ∙ p

-- a refusal of the list is the answer, and where there is none the rest decides
pub encode_list : (kind : Kind) (ps : List Pdu) (counter a r : ℕ) → r ≡ ladder (list_tests ps) → (r ≡ 0 → ⊥) → r ≡ ladder (encode_described kind ps counter a)
encode_list kind ps counter a r e h = e ∙ sym (encode_by kind ps counter a ∙ given_stops _ _ (λ z. h (e ∙ z)))

pub encode_rest : (kind : Kind) (ps : List Pdu) (counter a : ℕ) → ladder (list_tests ps) ≡ 0
    → ladder ((2 when counter_above counter) ∷ given (ladder (lengths_tests ps)) ∷ after_lengths kind ps a) ≡ ladder (encode_described kind ps counter a)
encode_rest kind ps counter a tests = sym (encode_by kind ps counter a ∙ given_goes_on _ _ tests)

-- a call that has no kind, no counter and no a
pub encode_sized : (ps : List Pdu) → ladder (encode_described Data ps 0 0) ≡ ladder (list_sized ps)
unfolding encode_described
encode_sized ps = described_sized ps

numbered_described : (ps : List Pdu) (counter a : ℕ) → T (numbered (list_described ps counter a))
unfolding list_described list_tests
numbered_described ps counter a = numbered_both (list_tests ps) _ (numbered_modes ps) (numbered_both (lengths_tests ps) _ (numbered_lengths ps) tt)

-- where a kind's description is not refused, its list, counter and a are not
pub encode_described_lem : (kind : Kind) (ps : List Pdu) (counter a : ℕ) → ladder (encode_described kind ps counter a) ≡ 0 → ladder (list_described ps counter a) ≡ 0
unfolding encode_described
encode_described_lem Data ps counter a zero = zero
encode_described_lem Bch ps counter a zero = ladder_front (list_described ps counter a) (bch_test ps a) (numbered_described ps counter a) zero

pub encode_legal : (kind : Kind) (ps : List Pdu) (counter a : ℕ) → ladder (encode_described kind ps counter a) ≡ 0 → LegalList ps counter a
encode_legal kind ps counter a zero = list_legal ps counter a (encode_described_lem kind ps counter a zero)

-- and one that a decode does not refuse, by the counter that it heeds
pub decode_legal : (kind : Kind) (ps : List Pdu) (counter a : ℕ) → ladder (decode_described kind ps counter a) ≡ 0 → LegalList ps (heeded kind counter) a
decode_legal kind ps counter a zero = encode_legal kind ps (heeded kind counter) a (heeded_described kind ps counter a ∙ zero)

-- the one list that a BCH has
one_list : (ps : List Pdu) → length ps ≡ 1 → length_of ps ≡ 120 → first_mode ps ≡ 1 → ps ≡ one 1 120
unfolding sum_of
one_list [] count N mode = absurd (omega arith)
one_list (p ∷ []) count N mode = let is : p.length ≡ 120 = omega arith in λ t. record { mode = mode t; length = is t } ∷ []
one_list (p ∷ q ∷ ps) count N mode = absurd (omega arith)

-- a BCH that is not refused is one PDU of 120 bits, mode 1, a = 0
pub bch_described : (ps : List Pdu) (counter a : ℕ) → ladder (encode_described Bch ps counter a) ≡ 0 → (ps ≡ one 1 120) × (a ≡ 0)
unfolding encode_described
bch_described ps counter a zero =
    let other = (ladder_passed 11 _ _ (sym (ladder_goes_on (list_described ps counter a) (bch_test ps a) (numbered_described ps counter a) (encode_described_lem Bch ps counter a zero)) ∙ zero)).0 in
    let (count, other) = neither _ _ other in
    let (bits, other) = neither _ _ other in
    let (mode, place) = neither _ _ other in
    (one_list ps (eqb-true _ _ (not-false _ count)) (eqb-true _ _ (not-false _ bits)) (eqb-true _ _ (not-false _ mode)), eqb-true _ _ (not-false _ place))
