-- Where the ladder of refusals has come to, what "not refused" gives, and that a list of one PDU is refused as document 01 says.
-- Assumes nothing.
use mathlib.Core.Path.{◌≡◌, refl, sym, ◌∙◌, ap}
use mathlib.Core.Bool.{Bool, true, false, ◌||◌}
use mathlib.Core.List.{List, [], ◌∷◌, ◌++◌}
use Prim.Native.Nat.{ℕ, zero, suc, ◌+◌, ◌-◌, ◌%◌, ◌≤◌, ◌<◌}
use native.Mathlib.Nat.{add-zero}
use native.Mathlib.Numerals.{add-one}
use native.Mathlib.Omega.{arith}
use lib.Dec.{T, ltb}
use lib.ListN.{length, get_or, drop, drop_of_length-le}
use lib.Seq.{drop-cons}
use borrow.Author.Tests.{le-ltb, ltb-false, eq-eqb, eqb-true, not-false}
use Rattle.laws.specs.Ladder.{Rung, ◌when◌, ladder, given}
use Rattle.laws.proofs.LadderLaws.{numbered, ladder_passed, ladder_stops, ladder_goes_on, ladder_idle, ladder_under, ladder_part, given_goes_on, given_passed}
use Rattle.modes.specs.Modes.{info}
use Rattle.modes.specs.Pdus.{Pdu, one, sum_of, length_of}
use Rattle.modes.specs.Refusals.{outside, mode_unknown, counter_above, length_outside, not_octets, not_symbols, place_above, lengths, sized, described, modes_tests, list_tests, lengths_tests, list_sized, list_described}
use Rattle.modes.specs.Description.{Fit, EachFit, FitList, LegalList}

pub neither : (a b : Bool) → (a || b) ≡ false → (a ≡ false) × (b ≡ false)
neither true b e = let z : ◌≡◌ {A = ℕ} 0 1 = cc in absurd (omega arith)
neither false b e = (refl, e)

pub within : (least most x : ℕ) → outside least most x ≡ false → (least ≤ x) × (x ≤ most)
within least most x e =
    let parts = neither (ltb x least) (ltb most x) e in
    (ltb-false x least parts.0, ltb-false most x parts.1)

pub record Lengths (per_symbol N : ℕ) : Type 0 where
  pub inside : (72 ≤ N) × (N ≤ 3456)
  pub octets : N % 8 ≡ 0
  pub symbols : N % per_symbol ≡ 0

-- 3, 4 and 5 passed, and what follows them
lengths_passed : (per_symbol N : ℕ) (rest : List Rung) → ladder (lengths per_symbol N ++ rest) ≡ 0 → Lengths per_symbol N × (ladder rest ≡ 0)
unfolding lengths
lengths_passed per_symbol N rest h =
    let p3 = ladder_passed 2 _ _ h in
    let p4 = ladder_passed 3 _ _ p3.1 in
    let p5 = ladder_passed 4 _ _ p4.1 in (
      record {
        inside = within 72 3456 N p3.0;
        octets = eqb-true _ _ (not-false _ p4.0);
        symbols = eqb-true _ _ (not-false _ p5.0);
      },
      p5.1,
    )

fit_of : (k N : ℕ) → outside 1 7 k ≡ false → Lengths (info k) N → Fit k N
fit_of k N m l =
    record {
      from_1 = (within 1 7 k m).0;
      to_7 = (within 1 7 k m).1;
      from_72 = l.inside.0;
      to_3456 = l.inside.1;
      whole_octets = l.octets;
      whole_symbols = l.symbols;
    }

-- 1, PDU by PDU: the rungs are numbered, and those before k have passed
pub numbered_modes : (ps : List Pdu) → T (numbered (modes_tests ps))
unfolding modes_tests
numbered_modes [] = tt
numbered_modes (p ∷ ps) = numbered_modes ps

pub numbered_lengths : (ps : List Pdu) → T (numbered (lengths_tests ps))
unfolding lengths_tests lengths
numbered_lengths [] = tt
numbered_lengths (p ∷ ps) = numbered_lengths ps

module _ (ps : List Pdu) (k : ℕ) (d : Pdu) (h : k < length ps) where
  pub modes_on : ladder (modes_tests ps) ≡ ladder (modes_tests (drop k ps)) → mode_unknown (get_or ps k d).mode ≡ false
      → ladder (modes_tests ps) ≡ ladder (modes_tests (drop (k + 1) ps))
  unfolding modes_tests ladder
  modes_on so known = so ∙ rw (add-one k, drop-cons ps k d h, known) refl

  pub modes_stop : ladder (modes_tests ps) ≡ ladder (modes_tests (drop k ps)) → mode_unknown (get_or ps k d).mode ≡ true → ladder (modes_tests ps) ≡ 1
  unfolding modes_tests ladder
  modes_stop so unknown = so ∙ rw (drop-cons ps k d h, unknown) refl

  pub lengths_on : ladder (lengths_tests ps) ≡ ladder (lengths_tests (drop k ps)) → ladder (lengths (info (get_or ps k d).mode) (get_or ps k d).length) ≡ 0
      → ladder (lengths_tests ps) ≡ ladder (lengths_tests (drop (k + 1) ps))
  unfolding lengths_tests lengths
  lengths_on so passes =
      so
      ∙ ap (λ (l : List Pdu). ladder (lengths_tests l)) (drop-cons ps k d h)
      ∙ ladder_goes_on (lengths (info (get_or ps k d).mode) (get_or ps k d).length) _ tt passes
      ∙ ap (λ (j : ℕ). ladder (lengths_tests (drop j ps))) (sym (add-one k))

  pub lengths_stop : ladder (lengths_tests ps) ≡ ladder (lengths_tests (drop k ps)) → (ladder (lengths (info (get_or ps k d).mode) (get_or ps k d).length) ≡ 0 → ⊥)
      → ladder (lengths_tests ps) ≡ ladder (lengths (info (get_or ps k d).mode) (get_or ps k d).length)
  unfolding lengths_tests
  lengths_stop so refused =
      so ∙ ap (λ (l : List Pdu). ladder (lengths_tests l)) (drop-cons ps k d h) ∙ ladder_stops (lengths (info (get_or ps k d).mode) (get_or ps k d).length) _ refused

-- past the last PDU nothing is refused
module _ (ps : List Pdu) (k : ℕ) (h : length ps ≤ k) where
  pub modes_end : ladder (modes_tests ps) ≡ ladder (modes_tests (drop k ps)) → ladder (modes_tests ps) ≡ 0
  unfolding modes_tests ladder
  modes_end so = so ∙ rw (drop_of_length-le ps h) refl

  pub lengths_end : ladder (lengths_tests ps) ≡ ladder (lengths_tests (drop k ps)) → ladder (lengths_tests ps) ≡ 0
  unfolding lengths_tests ladder
  lengths_end so = so ∙ rw (drop_of_length-le ps h) refl

-- a list of 1 to 16 goes on to its modes
pub list_inside : (ps : List Pdu) → 1 ≤ length ps → length ps ≤ 16 → ladder (list_tests ps) ≡ ladder (modes_tests ps)
unfolding list_tests ladder
list_inside ps low high = simp (le-ltb (length ps) 1 low, le-ltb 16 (length ps) high)

pub list_passed : (ps : List Pdu) → ladder (list_tests ps) ≡ 0 → (length ps ≤ 16) × (ladder (modes_tests ps) ≡ 0)
unfolding list_tests
list_passed ps passes =
    let (count, modes) = ladder_passed 10 _ _ passes in
    ((within 1 16 (length ps) count).1, modes)

pub list_some : (ps : List Pdu) → ladder (list_tests ps) ≡ 0 → 1 ≤ length ps
unfolding list_tests
list_some ps passes = (within 1 16 (length ps) (ladder_passed 10 _ _ passes).0).0

-- modes that are not refused are known
pub known_at : (ps : List Pdu) → ladder (modes_tests ps) ≡ 0 → (k : ℕ) (d : Pdu) → k < length ps → (1 ≤ (get_or ps k d).mode) × ((get_or ps k d).mode ≤ 7)
unfolding modes_tests
known_at [] zeros k d h = absurd (omega arith)
known_at (p ∷ ps) zeros zero d h = within 1 7 p.mode (ladder_passed 0 _ _ zeros).0
known_at (p ∷ ps) zeros (suc k) d h = known_at ps (ladder_passed 0 _ _ zeros).1 k d (omega arith)

-- and with lengths that are not refused every PDU is fit
pub each_fit : (ps : List Pdu) → ladder (modes_tests ps) ≡ 0 → ladder (lengths_tests ps) ≡ 0 → EachFit ps
unfolding modes_tests lengths_tests EachFit
each_fit [] modes lens = tt
each_fit (p ∷ ps) modes lens =
    let (known, rest) = ladder_passed 0 _ _ modes in
    let (passes, others) = lengths_passed (info p.mode) p.length (lengths_tests ps) lens in
    (fit_of p.mode p.length known passes, each_fit ps rest others)

-- the whole ladder, with what is tested PDU by PDU as one rung each, whatever follows
pub described_then : (ps : List Pdu) (counter : ℕ) (last : List Rung)
    → ladder (list_tests ps ++ ((2 when counter_above counter) ∷ (lengths_tests ps ++ last)))
    ≡ ladder (given (ladder (list_tests ps)) ∷ (2 when counter_above counter) ∷ given (ladder (lengths_tests ps)) ∷ last)
unfolding list_tests
described_then ps counter last =
    let two : Rung = 2 when counter_above counter in
    ladder_part (list_tests ps) (two ∷ (lengths_tests ps ++ last)) (numbered_modes ps)
    ∙ ladder_under (given (ladder (list_tests ps))) (two ∷ (lengths_tests ps ++ last)) (two ∷ given (ladder (lengths_tests ps)) ∷ last)
    (ladder_under two (lengths_tests ps ++ last) (given (ladder (lengths_tests ps)) ∷ last) (ladder_part (lengths_tests ps) last (numbered_lengths ps)))

pub sized_then : (ps : List Pdu) (last : List Rung)
    → ladder (list_tests ps ++ (lengths_tests ps ++ last)) ≡ ladder (given (ladder (list_tests ps)) ∷ given (ladder (lengths_tests ps)) ∷ last)
unfolding list_tests
sized_then ps last =
    ladder_part (list_tests ps) (lengths_tests ps ++ last) (numbered_modes ps)
    ∙ ladder_under (given (ladder (list_tests ps))) (lengths_tests ps ++ last) (given (ladder (lengths_tests ps)) ∷ last)
    (ladder_part (lengths_tests ps) last (numbered_lengths ps))

pub described_by : (ps : List Pdu) (counter a : ℕ)
    → ladder (list_described ps counter a)
    ≡ ladder
    (given (ladder (list_tests ps))
    ∷ (2 when counter_above counter)
    ∷ given (ladder (lengths_tests ps))
    ∷ (3 when length_outside (length_of ps))
    ∷ (6 when place_above (length_of ps) a)
    ∷ [])
unfolding list_described
described_by ps counter a = described_then ps counter _

pub sized_by : (ps : List Pdu)
    → ladder (list_sized ps) ≡ ladder (given (ladder (list_tests ps)) ∷ given (ladder (lengths_tests ps)) ∷ (3 when length_outside (length_of ps)) ∷ [])
unfolding list_sized
sized_by ps = sized_then ps _

-- what a list that passes is
fit_list : (ps : List Pdu) → ladder (list_tests ps) ≡ 0 → ladder (lengths_tests ps) ≡ 0 → length_outside (length_of ps) ≡ false → FitList ps
unfolding list_tests
fit_list ps tests lens sum =
    let (count, modes) = ladder_passed 10 _ _ tests in
    let (low, high) = within 1 16 (length ps) count in
    record { from_1 = low; to_16 = high; each = each_fit ps modes lens; to_3456 = (within 72 3456 (length_of ps) sum).1 }

pub list_fit : (ps : List Pdu) → ladder (list_sized ps) ≡ 0 → FitList ps
list_fit ps h =
    let (tests, p) = given_passed _ _ (sym (sized_by ps) ∙ h) in
    let (lens, p) = given_passed _ _ p in
    fit_list ps tests lens (ladder_passed 2 _ _ p).0

-- and a list that is so passes
modes_pass : (ps : List Pdu) → EachFit ps → ladder (modes_tests ps) ≡ 0
unfolding modes_tests EachFit ladder
modes_pass [] each = refl
modes_pass (p ∷ ps) (fit, each) = simp (le-ltb p.mode 1 fit.from_1, le-ltb 7 p.mode fit.to_7) (modes_pass ps each)

lengths_pass : (ps : List Pdu) → EachFit ps → ladder (lengths_tests ps) ≡ 0
unfolding lengths_tests EachFit lengths ladder
lengths_pass [] each = refl
lengths_pass (p ∷ ps) (fit, each) =
    simp (le-ltb p.length 72 fit.from_72, le-ltb 3456 p.length fit.to_3456, eq-eqb _ _ fit.whole_octets, eq-eqb _ _ fit.whole_symbols) (lengths_pass ps each)

pub first_long : (ps : List Pdu) → 1 ≤ length ps → EachFit ps → 72 ≤ length_of ps
unfolding EachFit sum_of
first_long [] some each = absurd (omega arith)
first_long (p ∷ ps) some (fit, each) = omega (arith, fit.from_72)

pub fit_sized : (ps : List Pdu) → FitList ps → ladder (list_sized ps) ≡ 0
fit_sized ps fit =
    let low = first_long ps fit.from_1 fit.each in
    sized_by ps
    ∙ given_goes_on _ _ (list_inside ps fit.from_1 fit.to_16 ∙ modes_pass ps fit.each)
    ∙ given_goes_on _ _ (lengths_pass ps fit.each)
    ∙ (unfold ladder in simp (le-ltb (length_of ps) 72 low, le-ltb 3456 (length_of ps) fit.to_3456) refl)

pub list_legal : (ps : List Pdu) (counter a : ℕ) → ladder (list_described ps counter a) ≡ 0 → LegalList ps counter a
list_legal ps counter a h =
    let (tests, p) = given_passed _ _ (sym (described_by ps counter a) ∙ h) in
    let (known, p) = ladder_passed 1 _ _ p in
    let (lens, p) = given_passed _ _ p in
    let (sum, p) = ladder_passed 2 _ _ p in
    let low : 72 ≤ length_of ps = (within 72 3456 (length_of ps) sum).0 in
    record {
      fit = fit_list ps tests lens sum;
      to_15 = ltb-false 15 counter known;
      inside = omega (arith, ltb-false (length_of ps - 72) a (ladder_passed 5 _ _ p).0);
    }

-- with 0 for counter and a, their tests refuse nothing
pub described_sized : (ps : List Pdu) → ladder (list_described ps 0 0) ≡ ladder (list_sized ps)
described_sized ps =
    described_by ps 0 0
    ∙ rw (le-ltb (length_of ps - 72) 0 (omega arith)) (ladder_under _ _ _ (go (given (ladder (lengths_tests ps))) (3 when length_outside (length_of ps))))
    ∙ sym (sized_by ps)
  where
    go : (x y : Rung) → ladder ((2 when false) ∷ x ∷ y ∷ (6 when false) ∷ []) ≡ ladder (x ∷ y ∷ [])
    go x y = unfold ladder in ladder_idle (x ∷ y ∷ []) 6

-- a list of one PDU is refused as document 01's description is: its length is tested twice
one_again : (m c l o s p : Bool)
    → ladder ((11 when false) ∷ (1 when m) ∷ (2 when c) ∷ (3 when l) ∷ (4 when o) ∷ (5 when s) ∷ (3 when l) ∷ (6 when p) ∷ [])
    ≡ ladder ((1 when m) ∷ (2 when c) ∷ (3 when l) ∷ (4 when o) ∷ (5 when s) ∷ (6 when p) ∷ [])
unfolding ladder
one_again true c l o s p = refl
one_again false true l o s p = refl
one_again false false true o s p = refl
one_again false false false true s p = refl
one_again false false false false true p = refl
one_again false false false false false p = refl

pub one_described : (mode counter N a : ℕ) → ladder (list_described (one mode N) counter a) ≡ ladder (described mode counter N a)
unfolding list_described list_tests modes_tests lengths_tests lengths described sum_of
one_described mode counter N a = rw (add-zero N) (one_again (mode_unknown mode) (counter_above counter) (length_outside N) (not_octets N) (not_symbols (info mode) N) (place_above N a))

pub one_sized : (mode N : ℕ) → ladder (list_sized (one mode N)) ≡ ladder (sized mode N)
unfolding list_sized list_tests modes_tests lengths_tests lengths sized sum_of
one_sized mode N = rw (add-zero N) (go (mode_unknown mode) (length_outside N) (not_octets N) (not_symbols (info mode) N))
  where
    go : (m l o s : Bool)
        → ladder ((11 when false) ∷ (1 when m) ∷ (3 when l) ∷ (4 when o) ∷ (5 when s) ∷ (3 when l) ∷ [])
        ≡ ladder ((1 when m) ∷ (3 when l) ∷ (4 when o) ∷ (5 when s) ∷ [])
    go true l o s = unfold ladder in refl
    go false true o s = unfold ladder in refl
    go false false true s = unfold ladder in refl
    go false false false true = unfold ladder in refl
    go false false false false = unfold ladder in refl
