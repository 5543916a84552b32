-- Laws of table 1: what a number that is no mode's gives, the number of a mode's two enums, and the columns that follow from others.
-- Assumes nothing.
use mathlib.Core.Path.{◌≡◌, refl, ◌∙◌, ap, ap₂}
use mathlib.Core.Bool.{Bool, true, false}
use Prim.Native.Nat.{ℕ, zero, suc, ◌*◌, ◌≤◌, ◌<◌}
use lib.Dec.{leb, lit<}
use lib.ListN.{get_or, get_or-eq_default}
use borrow.Author.Tests.{leb-true, leb-false}
use native.Mathlib.Omega.{arith}
use Rattle.modes.specs.declared.Constellation.{Constellation}
use Rattle.modes.specs.declared.Constellation.TheVariants.{Bpsk, Qpsk, Qam16, Qam64}
use Rattle.modes.specs.declared.Rate.{Rate}
use Rattle.modes.specs.declared.Rate.TheVariants.{Half, NineSixteenths, ThreeQuarters}
use Rattle.modes.specs.Modes.{table1, no_mode, row_of, constellation_in, rate_in, bits_in, sent_in, info_in, constellation_of, rate_of, bits, sent, info, bits_of, info_of, number_of}

-- what holds of each of the seven modes holds of every mode
pub by_mode : (P : ℕ → Type 0) → P 1 → P 2 → P 3 → P 4 → P 5 → P 6 → P 7 → (k : ℕ) → 1 ≤ k → k ≤ 7 → P k
by_mode P p1 p2 p3 p4 p5 p6 p7 zero low high = absurd (omega arith)
by_mode P p1 p2 p3 p4 p5 p6 p7 (suc zero) low high = p1
by_mode P p1 p2 p3 p4 p5 p6 p7 (suc (suc zero)) low high = p2
by_mode P p1 p2 p3 p4 p5 p6 p7 (suc (suc (suc zero))) low high = p3
by_mode P p1 p2 p3 p4 p5 p6 p7 (suc (suc (suc (suc zero)))) low high = p4
by_mode P p1 p2 p3 p4 p5 p6 p7 (suc (suc (suc (suc (suc zero))))) low high = p5
by_mode P p1 p2 p3 p4 p5 p6 p7 (suc (suc (suc (suc (suc (suc zero)))))) low high = p6
by_mode P p1 p2 p3 p4 p5 p6 p7 (suc (suc (suc (suc (suc (suc (suc zero))))))) low high = p7
by_mode P p1 p2 p3 p4 p5 p6 p7 (suc (suc (suc (suc (suc (suc (suc (suc k)))))))) low high = absurd (omega arith)

-- the columns follow from the two enums
pub columns : (k : ℕ) → 1 ≤ k → k ≤ 7
    → (bits k ≡ bits_of (constellation_of k)) × (sent k ≡ 48 * bits k) × (info k ≡ info_of (constellation_of k) (rate_of k))
unfolding bits sent info constellation_of rate_of bits_in sent_in info_in constellation_in rate_in row_of table1
columns = by_mode _ (refl, refl, refl) (refl, refl, refl) (refl, refl, refl) (refl, refl, refl) (refl, refl, refl) (refl, refl, refl) (refl, refl, refl)

-- a number that is no mode's has the row of no mode
pub row_of_none : (k : ℕ) → (1 ≤ k → k ≤ 7 → ⊥) → row_of k ≡ no_mode
unfolding row_of table1
row_of_none zero h = refl
row_of_none (suc k) h = go (leb 7 k) refl
  where
    go : (t : Bool) → leb 7 k ≡ t → get_or table1 k no_mode ≡ no_mode
    go true e = get_or-eq_default table1 no_mode (leb-true 7 k e)
    go false e = absurd (h (omega arith) (omega (arith, leb-false 7 k e)))

pub info_above_0 : (k : ℕ) → 1 ≤ k → k ≤ 7 → 0 < info k
unfolding info info_in row_of table1
info_above_0 = by_mode _ (lit< tt) (lit< tt) (lit< tt) (lit< tt) (lit< tt) (lit< tt) (lit< tt)

-- the mode of a number has that number
pub number_back : (k : ℕ) → 1 ≤ k → k ≤ 7 → number_of (constellation_of k) (rate_of k) ≡ k
unfolding number_of constellation_of rate_of constellation_in rate_in row_of table1
number_back = by_mode _ refl refl refl refl refl refl refl

-- the number of a mode has its two enums
pub enums_back : (c : Constellation) (r : Rate) → 1 ≤ number_of c r → (constellation_of (number_of c r) ≡ c) × (rate_of (number_of c r) ≡ r)
unfolding number_of constellation_of rate_of constellation_in rate_in row_of table1
enums_back Bpsk Half h = (refl, refl)
enums_back Bpsk NineSixteenths h = absurd (omega arith)
enums_back Bpsk ThreeQuarters h = (refl, refl)
enums_back Qpsk Half h = (refl, refl)
enums_back Qpsk NineSixteenths h = absurd (omega arith)
enums_back Qpsk ThreeQuarters h = (refl, refl)
enums_back Qam16 Half h = absurd (omega arith)
enums_back Qam16 NineSixteenths h = (refl, refl)
enums_back Qam16 ThreeQuarters h = (refl, refl)
enums_back Qam64 Half h = absurd (omega arith)
enums_back Qam64 NineSixteenths h = absurd (omega arith)
enums_back Qam64 ThreeQuarters h = (refl, refl)

-- a mode's columns by its two enums
pub by_enums : (c : Constellation) (r : Rate) → 1 ≤ number_of c r → number_of c r ≤ 7
    → (bits (number_of c r) ≡ bits_of c) × (sent (number_of c r) ≡ 48 * bits_of c) × (info (number_of c r) ≡ info_of c r)
by_enums c r low high =
    let (b, S, i) = columns (number_of c r) low high in
    let (ec, er) = enums_back c r low in
    (b ∙ ap bits_of ec, S ∙ ap (λ (n : ℕ). 48 * n) (b ∙ ap bits_of ec), i ∙ ap₂ info_of ec er)
