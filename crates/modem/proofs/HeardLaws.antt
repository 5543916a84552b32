-- Soft bytes spread over the coded bits: a train costs the same by what was heard of its coded bits as by its sent bits.
-- Assumes nothing.
use mathlib.Core.Path.{◌≡◌, refl, sym, ◌∙◌, ap, ap₂, subst}
use mathlib.Core.Bool.{Bool, true, false, true≢false, not, ◌||◌}
use mathlib.Core.Logic.{◌⊎◌, inl, inr}
use mathlib.Core.List.{List}
use Prim.Native.Nat.{ℕ, zero, suc, ◌+◌, ◌-◌, ◌*◌, ◌≤◌, ◌<◌}
use native.Mathlib.Omega.{arith}
use lib.Dec.{ltb, eqb}
use lib.IntN.{ℤ, pos, negsuc, neg_ℤ}
use lib.ListN.{get_or, replicate}
use borrow.Author.Tests.{ltb-true, ltb-false, ne_eqb}
use Rattle.laws.specs.Lists.{choose}
use Rattle.laws.specs.Sums.{total}
use Rattle.laws.specs.Signed.{above, counted}
use Rattle.laws.proofs.SumLaws.{total_ext}
use Rattle.laws.proofs.SignedLaws.{counted_neg}
use Rattle.modes.specs.Pdus.{Pdu, length_of, sent_of}
use Rattle.modes.specs.Description.{EachFit}
use Rattle.places.specs.Selection.{Place, goes_to, dropped, Selection, place, origin, at_place}
use Rattle.places.specs.Sending.{SpreadAll}
use Rattle.places.specs.Trains.{listed}
use Rattle.places.proofs.SelectionLaws.{Takes, origin_place, place_origin, total_sent}
use Rattle.places.proofs.BlockLaws.{dropped_not_at}
use Rattle.places.proofs.TrainLaws.{takes_listed}
use Rattle.coder.specs.Encoder.{tailed, coded}
use Rattle.trellis.specs.Heard as heard
use Rattle.search.specs.Bytes.{byte_cost, byte_heard, cost_of, heard_of}
use Rattle.search.specs.Spread.{SoftBytes}
use Rattle.soft.specs.Soft.{bit_cost}
use Rattle.soft.specs.Carriers.{is_soft, all_soft}
use Rattle.soft.proofs.RangeLaws.{all_soft_at}
use Rattle.modem.specs.Sent.{sent_by, cost_by, differing_by}
use Rattle.modem.specs.Costs.{rounded_cost, differing}

-- a byte that is heard costs by how far it is from 128
heard_cost : (x b : ℕ) → 0 < x → byte_cost x b ≡ choose (eqb b 0) (x - 128) (128 - x)
unfolding byte_cost
heard_cost x b some = simp (ne_eqb x 0 (λ e. omega arith))

-- a soft byte counted from -128 is as far above 128 as it is above 0, and as far below
from_128 : (z : ℤ) → 0 < counted 128 z → (counted 128 z - 128 ≡ above z) × (128 - counted 128 z ≡ above (neg_ℤ z))
unfolding counted above
from_128 (pos zero) some = (refl, refl)
from_128 (pos (suc k)) some = (omega arith, omega arith)
from_128 (negsuc k) some =
    let below : counted 128 (negsuc k) ≡ 128 - suc k = counted_neg 128 k in
    rw below (omega (arith, some), omega (arith, some))

-- so it costs what the soft byte costs, and is heard
counted_cost : (z : ℤ) → 0 < counted 128 z → (b : ℕ) → byte_cost (counted 128 z) b ≡ bit_cost z b
unfolding bit_cost
counted_cost z some b = let (up, down) = from_128 z some in heard_cost (counted 128 z) b some ∙ ap₂ (choose (eqb b 0)) up down

counted_heard : (z : ℤ) → 0 < counted 128 z → byte_heard (counted 128 z) ≡ 1
unfolding byte_heard
counted_heard z some = simp (ne_eqb (counted 128 z) 0 (λ e. omega arith))

-- soft bytes in their range, counted from -128
soft_within : (z : ℤ) → is_soft z ≡ true → (48 ≤ counted 128 z) × (counted 128 z ≤ 208)
unfolding is_soft counted above
soft_within (pos k) soft = go (ltb 80 k) refl soft
  where
    go : (t : Bool) → ltb 80 k ≡ t → not (false || t) ≡ true → (48 ≤ counted 128 (pos k)) × (counted 128 (pos k) ≤ 208)
    go true t h = absurd (true≢false (sym h))
    go false t h = (omega arith, omega (arith, ltb-false 80 k t))
soft_within (negsuc k) soft = go (ltb 79 k) refl soft
  where
    go : (t : Bool) → ltb 79 k ≡ t → not (t || false) ≡ true → (48 ≤ counted 128 (negsuc k)) × (counted 128 (negsuc k) ≤ 208)
    go true t h = absurd (true≢false (sym h))
    go false t h = rw (counted_neg 128 k) (omega (arith, ltb-false 79 k t), omega arith)

all_within : (l : List ℤ) → all_soft l ≡ true → (q : ℕ) → (48 ≤ counted 128 (get_or l q (pos 0))) × (counted 128 (get_or l q (pos 0)) ≤ 208)
all_within l soft q = soft_within (get_or l q (pos 0)) (all_soft_at l soft q)

-- so they are heard
pub all_heard : (l : List ℤ) → all_soft l ≡ true → (q : ℕ) → 0 < counted 128 (get_or l q (pos 0))
all_heard l soft q = omega (arith, (all_within l soft q).0)

-- bytes spread by a selection: the byte of sent bit q stands at the coded bit that it is of, and 0 where none was sent
module _ (f : Selection) (i o : ℕ) (takes : Takes f i o) (soft : List ℤ) (bytes : List ℕ)
    (put : (q : ℕ) → q < o → get_or bytes (origin f q) 0 ≡ counted 128 (get_or soft q (pos 0)))
    (others : (m : ℕ) → ((q : ℕ) → q < o → origin f q ≡ m → ⊥) → get_or bytes m 0 ≡ 0)
  where
    heard_at : (m q : ℕ) → m < i → place f m ≡ goes_to q → (q < o) × (get_or bytes m 0 ≡ counted 128 (get_or soft q (pos 0)))
    heard_at m q h e =
        let (inside, there) = place_origin f takes m q h e in
        (inside, ap (λ (k : ℕ). get_or bytes k 0) (sym there) ∙ put q inside)

    heard_not : (m : ℕ) → place f m ≡ dropped → get_or bytes m 0 ≡ 0
    heard_not m e = others m (λ q inside there. dropped_not_at (sym e ∙ ap (place f) (sym there) ∙ (origin_place f takes q inside).1))

    -- a sum over what was heard is a sum over the sent bits
    heard_total : (g F : ℕ → ℕ → ℕ)
        → ((m : ℕ) → g m 0 ≡ 0)
        → ((m q : ℕ) → q < o → g m (counted 128 (get_or soft q (pos 0))) ≡ F m q)
        → total i (λ m. g m (get_or bytes m 0)) ≡ total o (λ q. F (origin f q) q)
    unfolding at_place
    heard_total g F none same =
        total_ext i _ _ (λ m h. at m h (place f m) refl) ∙ sym (total_sent f i o takes F)
      where
        at : (m : ℕ) → m < i → (p : Place) → place f m ≡ p → g m (get_or bytes m 0) ≡ at_place (F m) (place f m)
        at m h (goes_to q) e =
            let (inside, is) = heard_at m q h e in
            rw e (ap (g m) is ∙ same m q inside)
        at m h dropped e = rw e (ap (g m) (heard_not m e) ∙ none m)

    -- what stands at a coded bit is the byte of a sent bit, or 0
    heard_each : (P : ℕ → Type 0) → ((q : ℕ) → q < o → P (counted 128 (get_or soft q (pos 0)))) → (m : ℕ)
        → (get_or bytes m 0 ≡ 0) ⊎ P (get_or bytes m 0)
    heard_each P each m = go (ltb m i) refl
      where
        at : m < i → (p : Place) → place f m ≡ p → (get_or bytes m 0 ≡ 0) ⊎ P (get_or bytes m 0)
        at h (goes_to q) e =
            let (inside, is) = heard_at m q h e in
            inr (subst P (sym is) (each q inside))
        at h dropped e = inl (heard_not m e)

        go : (z : Bool) → ltb m i ≡ z → (get_or bytes m 0 ≡ 0) ⊎ P (get_or bytes m 0)
        go true z = at (ltb-true m i z) (place f m) refl
        go false z = inl (others m (λ q inside there. omega (arith, ltb-false m i z, there, (origin_place f takes q inside).0)))

zeros_at : (n m : ℕ) → ◌≡◌ {A = ℕ} (get_or (replicate n 0) m 0) 0
zeros_at zero m = refl
zeros_at (suc n) zero = refl
zeros_at (suc n) (suc m) = zeros_at n m

-- the soft bytes of a train, spread over its coded bits
module _ (ps : List Pdu) (a : ℕ) (each : EachFit ps) (inside : a + 72 ≤ length_of ps) (soft : List ℤ) (bytes : List ℕ) (k : ℕ)
    (spread : SpreadAll ps a soft (replicate k 0) bytes)
    (some : (q : ℕ) → q < sent_of ps → 0 < counted 128 (get_or soft q (pos 0)))
  where
    train_total : (g F : ℕ → ℕ → ℕ)
        → ((m : ℕ) → g m 0 ≡ 0)
        → ((m q : ℕ) → q < sent_of ps → g m (counted 128 (get_or soft q (pos 0))) ≡ F m q)
        → total (2 * (length_of ps + 6)) (λ m. g m (get_or bytes m 0)) ≡ total (sent_of ps) (λ q. F (origin (listed ps a) q) q)
    unfolding SpreadAll
    train_total =
        heard_total (listed ps a) (2 * (length_of ps + 6)) (sent_of ps) (takes_listed ps a each inside) soft bytes
        spread.put (λ m free. spread.others m free ∙ zeros_at k m)

    -- bytes in their range are still so
    pub spread_soft : all_soft soft ≡ true → SoftBytes bytes
    unfolding SpreadAll
    spread_soft in_range =
        heard_each (listed ps a) (2 * (length_of ps + 6)) (sent_of ps) (takes_listed ps a each inside) soft bytes
        spread.put (λ m free. spread.others m free ∙ zeros_at k m)
        (λ x. (48 ≤ x) × (x ≤ 208)) (λ q h. all_within soft in_range q)

    pub same_cost : (w : List ℕ) → heard.train_cost (cost_of bytes) (length_of ps) w ≡ rounded_cost ps a soft w
    unfolding heard.train_cost cost_of rounded_cost cost_by sent_by byte_cost
    same_cost w =
        train_total
        (λ m x. byte_cost x (coded (tailed w) m)) (λ m q. bit_cost (get_or soft q (pos 0)) (coded (tailed w) m))
        (λ m. refl)
        (λ m q h. counted_cost (get_or soft q (pos 0)) (some q h) (coded (tailed w) m))

    pub same_differing : (w v : List ℕ) → heard.differing (heard_of bytes) (length_of ps) w v ≡ differing ps a w v
    unfolding heard.differing heard_of differing differing_by sent_by byte_heard
    same_differing w v =
        train_total
        (λ m x. choose (eqb (coded (tailed w) m) (coded (tailed v) m)) 0 (byte_heard x))
        (λ m q. choose (eqb (coded (tailed w) m) (coded (tailed v) m)) 0 1)
        (λ m. none (eqb (coded (tailed w) m) (coded (tailed v) m)))
        (λ m q h. ap (choose (eqb (coded (tailed w) m) (coded (tailed v) m)) 0) (counted_heard (get_or soft q (pos 0)) (some q h)))
      where
        none : (t : Bool) → ◌≡◌ {A = ℕ} (choose t 0 0) 0
        none true = refl
        none false = refl
