-- What a train holds: each PDU of it, and the sums over its first PDUs; and the PDUs that a list is made into.
-- Assumes nothing.
use mathlib.Core.Path.{◌≡◌, refl, sym, ◌∙◌, ap, ap₂}
use mathlib.Core.List.{List, [], ◌∷◌, ◌++◌}
use Prim.Native.Nat.{ℕ, ◌+◌, ◌≤◌, ◌<◌}
use native.Mathlib.Omega.{arith}
use native.Mathlib.Numerals.{add-one}
use lib.ListN.{length, get_or, take}
use lib.Seq.{take-suc}
use Rattle.std.proofs.Common.{map}
use Rattle.std.proofs.lemmas.List.{length-map, get_or-map, map-append}
use Rattle.modes.specs.declared.Pdu as source
use Rattle.modes.specs.declared.train.Train.{Train}
use Rattle.modes.specs.Modes.{number, number_of}
use Rattle.modes.specs.Pdus.{Pdu, pdu_of, pdus_of, sum_of, pdu_symbols, pdu_sent, length_of, symbols_of, sent_of}
use Rattle.modes.specs.Description.{Fit, FitList, held, Holds, no_pdu}
use Rattle.modes.specs.Passed.{pdus_in}
use Rattle.modes.proofs.ModeLaws.{number_back}
use Rattle.modes.proofs.PduLaws.{pdus_of_length, pdus_of_at, fit_at, sum_take, sum_most, sum_all}
use Rattle.modes.proofs.RefusalLaws.{list_fit}
use Rattle.modes.proofs.SizeLaws.{sent_of_within, symbols_of_within}

-- PDU k of a train
abbrev pub pdu_at : Train → ℕ → source.Pdu
pdu_at t k = get_or (take t.count t.pdus) k no_pdu

-- how many there are
abbrev pub count_in : Train → ℕ
count_in t = length (take t.count t.pdus)

-- a train's list is not refused
pub fit_in : (t : Train) → FitList (pdus_in t)
unfolding pdus_in
fit_in t = list_fit _ t.fit

module _ (t : Train) where
  pub pdus_in_length : length (pdus_in t) ≡ count_in t
  unfolding pdus_in
  pdus_in_length = length-map (take t.count t.pdus) held

  module _ (k : ℕ) (h : k < count_in t) where
    pub pdus_in_at : (d : Pdu) → get_or (pdus_in t) k d ≡ held (pdu_at t k)
    unfolding pdus_in
    pdus_in_at d = get_or-map held (take t.count t.pdus) k no_pdu d h

    pub held_fit : Fit (number (pdu_at t k).mode) (pdu_at t k).n
    held_fit = rw (pdus_in_at (pdu_of 0 0)) at (fit_at (pdus_in t) (fit_in t).each k (pdu_of 0 0) (omega (arith, pdus_in_length)))

    -- a sum over one PDU more
    pub held_sum : (size : Pdu → ℕ) → sum_of size (take (k + 1) (pdus_in t)) ≡ sum_of size (take k (pdus_in t)) + size (held (pdu_at t k))
    held_sum size =
        sum_take size (pdus_in t) k (pdu_of 0 0) (omega (arith, pdus_in_length))
        ∙ ap (λ (p : Pdu). sum_of size (take k (pdus_in t)) + size p) (pdus_in_at (pdu_of 0 0))

  pub held_all : (size : Pdu → ℕ) (k : ℕ) → count_in t ≤ k → sum_of size (take k (pdus_in t)) ≡ sum_of size (pdus_in t)
  held_all size k h = sum_all size (pdus_in t) k (omega (arith, pdus_in_length))

-- the sizes of the first k PDUs have been counted
pub record Counted (t : Train) (k n symbols sent : ℕ) : Type 0 where
  pub n_is : n ≡ length_of (take k (pdus_in t))
  pub symbols_is : symbols ≡ symbols_of (take k (pdus_in t))
  pub sent_is : sent ≡ sent_of (take k (pdus_in t))

pub counted_none : (t : Train) → Counted t 0 0 0 0
unfolding sum_of
counted_none t = record { n_is = refl; symbols_is = refl; sent_is = refl }

module _ (t : Train) (k n symbols sent : ℕ) (c : Counted t k n symbols sent) where
  fit : FitList (pdus_in t)
  fit = fit_in t

  pub counted_small : (n ≤ 3456) × (symbols ≤ 144) × (sent ≤ 6912)
  counted_small = (
    omega (arith, c.n_is, sum_most (λ p. p.length) (pdus_in t) k, fit.to_3456),
    omega (arith, c.symbols_is, sum_most pdu_symbols (pdus_in t) k, symbols_of_within (pdus_in t) fit.each, fit.to_3456),
    omega (arith, c.sent_is, sum_most pdu_sent (pdus_in t) k, sent_of_within (pdus_in t) fit.each, fit.to_3456),
  )

  pub counted_again : (s b : ℕ) → k < count_in t → s ≡ pdu_symbols (held (pdu_at t k)) → b ≡ pdu_sent (held (pdu_at t k))
      → Counted t (k + 1) (n + (pdu_at t k).n) (symbols + s) (sent + b)
  counted_again s b h es eb = record {
    n_is = omega (arith, c.n_is, held_sum t k h (λ p. p.length));
    symbols_is = omega (arith, c.symbols_is, es, held_sum t k h pdu_symbols);
    sent_is = omega (arith, c.sent_is, eb, held_sum t k h pdu_sent);
  }

  pub counted_all : count_in t ≤ k → (n ≡ length_of (pdus_in t)) × (symbols ≡ symbols_of (pdus_in t)) × (sent ≡ sent_of (pdus_in t))
  counted_all h = (
    c.n_is ∙ held_all t (λ p. p.length) k h,
    c.symbols_is ∙ held_all t pdu_symbols k h,
    c.sent_is ∙ held_all t pdu_sent k h,
  )

-- a list that is not refused, of which the first k PDUs have been made
module _ (count : ℕ) (modes lengths : List ℕ) (fit : FitList (pdus_of count modes lengths)) (k : ℕ) (h : k < count) where
  pub made_again : (made : List source.Pdu) (p : source.Pdu) → Holds (get_or modes k 0) (get_or lengths k 0) p
      → map held made ≡ take k (pdus_of count modes lengths) → map held (made ++ p ∷ []) ≡ take (k + 1) (pdus_of count modes lengths)
  made_again made p one so =
      let none : Pdu = pdu_of 0 0 in
      let within : k < length (pdus_of count modes lengths) = omega (arith, pdus_of_length count modes lengths) in
      let at = pdus_of_at count modes lengths k none h in
      let ok = rw at at (fit_at (pdus_of count modes lengths) fit.each k none within) in
      let new : held p ≡ get_or (pdus_of count modes lengths) k none =
      ap₂ pdu_of (ap₂ number_of one.constellation_is one.rate_is ∙ number_back (get_or modes k 0) ok.from_1 ok.to_7) one.n_is ∙ sym at
      in
      map-append held made (p ∷ [])
      ∙ ap₂ (λ (xs : List Pdu) (q : Pdu). xs ++ q ∷ []) so new
      ∙ sym (ap (λ (j : ℕ). take j (pdus_of count modes lengths)) (add-one k) ∙ take-suc (pdus_of count modes lengths) k none within)
