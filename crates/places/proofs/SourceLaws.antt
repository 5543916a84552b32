-- Each sent bit of a PDU has its coded bit, and no two the same: what the code that sends or spreads a PDU is to be lent.
-- Assumes nothing.
use mathlib.Core.Path.{◌≡◌, refl, sym, ap, ◌∙◌}
use Prim.Native.Nat.{ℕ, ◌+◌, ◌*◌, ◌≤◌, ◌<◌}
use native.Mathlib.Omega.{arith}
use Rattle.modes.specs.declared.Constellation.{Constellation}
use Rattle.modes.specs.declared.Rate.{Rate}
use Rattle.modes.specs.Modes.{bits_of, info_of, number_of}
use Rattle.modes.proofs.ModeLaws.{enums_back, by_enums}
use Rattle.places.specs.Selection.{Selection, origin, place, at_place}
use Rattle.places.specs.Puncture.{p1, p2}
use Rattle.places.specs.Sending.{source_of, Sources}
use Rattle.places.specs.Trains.{pdu, pdu_by}
use Rattle.places.proofs.SelectionLaws.{Takes, origin_place}
use Rattle.places.proofs.TrainLaws.{takes_p1, takes_rate}

-- what goes out at two places is not the same bit
pub origin_once : (f : Selection) (i o : ℕ) → Takes f i o → (p q : ℕ) → p < o → q < o → origin f p ≡ origin f q → p ≡ q
unfolding at_place
origin_once f i o takes p q hp hq same =
    let (_, there) = origin_place f takes p hp in
    let (_, there') = origin_place f takes q hq in
    ap (at_place (λ j. j)) (sym there ∙ ap (place f) same ∙ there')

-- s symbols of a PDU whose share of P1's output begins at `first`, in a train of N bits
pub pdu_sources : (c : Constellation) (rate : Rate) (a first s N coded : ℕ)
    → first + 2 * (s * info_of c rate) ≤ 2 * N → N ≤ 3456 → a + 72 ≤ N → 2 * (N + 6) ≤ coded
    → Sources rate a first (s * (48 * bits_of c)) coded
unfolding source_of
pdu_sources c rate a first s N coded share small inside room =
    record {
      punctured = λ q h. let (p, _) = origin_place (p2 rate) (takes_rate rate c s) q h in omega arith;
      present = λ q h.
          let (p, _) = origin_place (p2 rate) (takes_rate rate c s) q h in
          let (m, _) = origin_place (p1 a) (takes_p1 a N inside) (first + origin (p2 rate) q) (omega arith) in
          omega arith;
      apart = λ p q less h same.
          let (p₂, _) = origin_place (p2 rate) (takes_rate rate c s) p (omega arith) in
          let (q₂, _) = origin_place (p2 rate) (takes_rate rate c s) q h in
          let e : first + origin (p2 rate) p ≡ first + origin (p2 rate) q = origin_once (p1 a) _ _ (takes_p1 a N inside) _ _ (omega arith) (omega arith) same in
          let e₂ : p ≡ q = origin_once (p2 rate) _ _ (takes_rate rate c s) p q (omega arith) h (omega arith) in
          omega arith;
    }

-- a PDU by its bits and its rate is the PDU of that mode's number
pub pdu_enums : (c : Constellation) (rate : Rate) → 1 ≤ number_of c rate → number_of c rate ≤ 7 → pdu_by (bits_of c) rate ≡ pdu (number_of c rate)
unfolding pdu pdu_by
pdu_enums c rate low high =
    let (b, S, _) = by_enums c rate low high in
    rw (b, S, (enums_back c rate low).1) refl
