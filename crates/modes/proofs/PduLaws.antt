-- Lists of PDUs: what stands at k, sums over a list and its beginnings, and to which PDU an entry belongs.
-- Assumes nothing.
use mathlib.Core.Path.{◌≡◌, refl, sym, ◌∙◌, ap}
use mathlib.Core.Bool.{Bool, true, false}
use mathlib.Core.List.{List, [], ◌∷◌, ◌++◌, append-nil}
use Prim.Native.Nat.{ℕ, zero, suc, ◌+◌, ◌-◌, ◌≤◌, ◌<◌}
use native.Mathlib.Nat.{not-suc-le-zero, zero-add}
use native.Mathlib.Numerals.{add-one}
use native.Mathlib.Omega.{arith}
use lib.Dec.{ltb}
use lib.ListN.{length, get_or, take}
use lib.Seq.{take_all, take-suc, append_snoc}
use borrow.Author.Tests.{ltb-true, ltb-false, lt-ltb, le-ltb}
use Rattle.laws.proofs.ListLaws.{tabulate_length, tabulate_at}
use Rattle.modes.specs.Pdus.{Pdu, pdu_of, pdus_of, sum_of, Share, share_of}
use Rattle.modes.specs.Description.{Fit, EachFit}

module _ (count : ℕ) (modes lengths : List ℕ) where
  pub pdus_of_length : length (pdus_of count modes lengths) ≡ count
  unfolding pdus_of
  pdus_of_length = tabulate_length count _

  pub pdus_of_at : (k : ℕ) (d : Pdu) → k < count → get_or (pdus_of count modes lengths) k d ≡ pdu_of (get_or modes k 0) (get_or lengths k 0)
  unfolding pdus_of
  pdus_of_at k d h = tabulate_at count _ k d h

-- each PDU of a fit list is fit
pub fit_at : (ps : List Pdu) → EachFit ps → (k : ℕ) (d : Pdu) → k < length ps → Fit (get_or ps k d).mode (get_or ps k d).length
unfolding EachFit
fit_at [] each k d h = absurd (omega arith)
fit_at (p ∷ ps) (fit, each) zero d h = fit
fit_at (p ∷ ps) (fit, each) (suc k) d h = fit_at ps each k d (omega arith)

-- a share by its parts
abbrev pub share : List Pdu → Pdu → ℕ → Share
share before p k = record { before = before; pdu = p; at = k }

module _ (size : Pdu → ℕ) where
  pub sum_append : (xs ys : List Pdu) → sum_of size (xs ++ ys) ≡ sum_of size xs + sum_of size ys
  unfolding sum_of
  sum_append [] ys = sym (zero-add _)
  sum_append (x ∷ xs) ys = omega (arith, sum_append xs ys)

  pub sum_snoc : (xs : List Pdu) (p : Pdu) → sum_of size (xs ++ p ∷ []) ≡ sum_of size xs + size p
  unfolding sum_of
  sum_snoc xs p = omega (arith, sum_append xs (p ∷ []))

  -- the sum over one PDU more
  pub sum_take : (ps : List Pdu) (k : ℕ) (d : Pdu) → k < length ps → sum_of size (take (k + 1) ps) ≡ sum_of size (take k ps) + size (get_or ps k d)
  sum_take ps k d h = ap (λ (j : ℕ). sum_of size (take j ps)) (add-one k) ∙ ap (sum_of size) (take-suc ps k d h) ∙ sum_snoc (take k ps) (get_or ps k d)

  pub sum_all : (ps : List Pdu) (k : ℕ) → length ps ≤ k → sum_of size (take k ps) ≡ sum_of size ps
  sum_all ps k h = ap (sum_of size) (take_all k ps h)

  -- the first PDUs have no more than all
  pub sum_most : (ps : List Pdu) (k : ℕ) → sum_of size (take k ps) ≤ sum_of size ps
  unfolding sum_of
  sum_most [] zero = omega arith
  sum_most [] (suc k) = omega arith
  sum_most (p ∷ ps) zero = omega arith
  sum_most (p ∷ ps) (suc k) = omega (arith, sum_most ps k)

  -- entry j of the PDU p belongs to p, and those before p stand before
  pub share_at : (before xs : List Pdu) (p : Pdu) (ys : List Pdu) (j : ℕ) → j < size p
      → share_of size before (xs ++ p ∷ ys) (sum_of size xs + j) ≡ share (before ++ xs) p j
  unfolding share_of sum_of
  share_at before [] p ys j h = rw (zero-add j, lt-ltb j (size p) h) (ap (λ (l : List Pdu). share l p j) (sym (append-nil before)))
  share_at before (x ∷ xs) p ys j h =
      let behind : size x ≤ size x + sum_of size xs + j = omega arith in
      let rest : size x + sum_of size xs + j - size x ≡ sum_of size xs + j = omega arith in
      rw (le-ltb _ _ behind, rest)
      (share_at (before ++ x ∷ []) xs p ys j h ∙ ap (λ (l : List Pdu). share l p j) (append_snoc before x xs))

  -- an entry of a list is an entry of one of its PDUs
  pub record InPdu (ps : List Pdu) (k : ℕ) : Type 0 where
    pub xs : List Pdu
    pub pdu : Pdu
    pub ys : List Pdu
    pub at : ℕ
    pub list_is : ps ≡ xs ++ pdu ∷ ys
    pub entry_is : k ≡ sum_of size xs + at
    pub within : at < size pdu

  pub in_pdu : (ps : List Pdu) (k : ℕ) → k < sum_of size ps → InPdu ps k
  unfolding sum_of
  in_pdu [] k h = absurd (not-suc-le-zero h)
  in_pdu (p ∷ ps) k h = go (ltb k (size p)) refl (in_pdu ps (k - size p))
    where
      go : (t : Bool) → ltb k (size p) ≡ t → (k - size p < sum_of size ps → InPdu ps (k - size p)) → InPdu (p ∷ ps) k
      go true t later = record { xs = []; pdu = p; ys = ps; at = k; list_is = refl; entry_is = sym (zero-add k); within = ltb-true k (size p) t }
      go false t later =
          let low : size p ≤ k = ltb-false k (size p) t in
          let d = later (omega arith) in
          record {
            xs = p ∷ d.xs;
            pdu = d.pdu;
            ys = d.ys;
            at = d.at;
            list_is = ap (λ (l : List Pdu). p ∷ l) d.list_is;
            entry_is = omega (arith, d.entry_is);
            within = d.within;
          }
