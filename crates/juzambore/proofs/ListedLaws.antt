-- A list whose numbers have been copied as far as its count says.
-- Assumes nothing.
use mathlib.Core.Path.{◌≡◌, refl, sym, ◌∙◌, ap, ap₂}
use mathlib.Core.Bool.{Bool, true, false}
use mathlib.Core.List.{List}
use Prim.Native.Nat.{ℕ, zero, suc, ◌+◌, ◌≤◌, ◌<◌}
use native.Mathlib.Omega.{arith}
use lib.Dec.{ltb}
use lib.ListN.{length, get_or, set, length-set, get_or-eq_default, replicate}
use borrow.Author.Tests.{ltb-true, ltb-false}
use Rattle.laws.proofs.ListLaws.{tabulate_ext, after_set}
use Rattle.modes.specs.Pdus.{pdu_of, pdus_of}

-- the first k of sixteen numbers are those of another sixteen, and the rest are 0
pub record Copied (from : List ℕ) (k : ℕ) (to : List ℕ) : Type 0 where
  pub sixteen : length to ≡ 16
  pub same : (j : ℕ) → j < k → get_or to j 0 ≡ get_or from j 0
  pub rest : (j : ℕ) → k ≤ j → get_or to j 0 ≡ 0

-- zeros, and what stands past their end
zero_at : (n j : ℕ) → get_or (replicate n zero) j zero ≡ zero
zero_at zero j = refl
zero_at (suc n) zero = refl
zero_at (suc n) (suc j) = zero_at n j

pub copied_none : (from : List ℕ) → Copied from 0 (replicate 16 0)
copied_none from = record { sixteen = refl; same = λ j h. absurd (omega arith); rest = λ j h. zero_at 16 j }

pub copied_again : (from : List ℕ) (k : ℕ) (to : List ℕ) (x : ℕ) → Copied from k to → k < 16 → x ≡ get_or from k 0 → Copied from (k + 1) (set to k x)
copied_again from k to x c h e = record {
  sixteen = length-set to k x ∙ c.sixteen;
  same = λ j hj.
      after_set to k x j 0 (get_or from j 0) (omega (arith, c.sixteen))
      (λ here. e ∙ ap (λ (m : ℕ). get_or from m 0) (sym here))
      (λ other. c.same j (omega (arith, other)));
  rest = λ j hj. after_set to k x j 0 0 (omega (arith, c.sixteen)) (λ here. absurd (omega arith)) (λ _. c.rest j (omega arith));
}

-- where either the count or the array has come to its end, each number that the count means is the other's
copied_at : (from : List ℕ) (k : ℕ) (to : List ℕ) (count : ℕ) → Copied from k to → length from ≡ 16 → (k < count → 16 ≤ k)
    → (j : ℕ) → j < count → get_or to j 0 ≡ get_or from j 0
copied_at from k to count c sixteen whole j h = go (ltb j k) refl
  where
    go : (t : Bool) → ltb j k ≡ t → get_or to j 0 ≡ get_or from j 0
    go true t = c.same j (ltb-true j k t)
    go false t =
        let past : 16 ≤ j = let behind : k ≤ j = ltb-false j k t in omega (arith, behind, whole (omega arith)) in
        get_or-eq_default to 0 (omega (arith, c.sixteen)) ∙ sym (get_or-eq_default from 0 (omega arith))

pub copied_all : (modes lengths : List ℕ) (k : ℕ) (modes' lengths' : List ℕ) (count : ℕ) → Copied modes k modes' → Copied lengths k lengths'
    → length modes ≡ 16 → length lengths ≡ 16 → (k < count → 16 ≤ k)
    → pdus_of count modes' lengths' ≡ pdus_of count modes lengths
unfolding pdus_of
copied_all modes lengths k modes' lengths' count m l mode_all length_all whole =
    tabulate_ext count _ _ (λ j h.
    ap₂ pdu_of (copied_at modes k modes' count m mode_all whole j h) (copied_at lengths k lengths' count l length_all whole j h))
