-- One outcome is wanted: of two trains that are returned each is the other, and a train determines its octets.
-- Assumes nothing.
use mathlib.Core.Path.{◌≡◌, sym, ◌∙◌, ap, ap₂, subst}
use mathlib.Core.List.{List, ◌++◌}
use Prim.Native.Nat.{ℕ}
use lib.ListN.{take, take-append-drop}
use Rattle.laws.proofs.AnswerLaws.{same_test}
use Rattle.modes.specs.Sizes.{octets_of}
use Rattle.trellis.specs.Wanted.{Confirmed}
use Rattle.trellis.proofs.WantedLaws.{returned_unique}
use Rattle.trellis.proofs.CompareLaws.{one_number}
use Rattle.unique.specs.Sameness.{Octets}
use Rattle.modem.specs.Decode.{Outcome, Decoded}

module _ (stands : List ℕ → List ℕ) (N symbols n : ℕ) (cost : List ℕ → ℕ) (differing : List ℕ → List ℕ → ℕ) (octets words : List ℕ)
    (back : (x y : List ℕ) → Octets (octets_of N) (take (octets_of N) x) → Octets (octets_of N) (take (octets_of N) y) → stands x ≡ stands y
    → take (octets_of N) x ≡ take (octets_of N) y)
  where
    pub decoded_one : (x y : Outcome)
        → Decoded stands N symbols n cost differing octets words x → Decoded stands N symbols n cost differing octets words y → x ≡ y
    decoded_one x y dx dy =
        let cx = dx.chosen in
        let cy = dy.chosen in
        let same_train : stands x.octets ≡ stands y.octets = returned_unique cx.returned cy.returned in
        let front : take (octets_of N) x.octets ≡ take (octets_of N) y.octets = back _ _ cx.octets_low cy.octets_low same_train in
        let same_octets : x.octets ≡ y.octets =
        sym (take-append-drop (octets_of N) x.octets) ∙ ap₂ ◌++◌ front (cx.kept ∙ sym cy.kept) ∙ take-append-drop (octets_of N) y.octets
        in
        let same_cost : x.cost ≡ y.cost = cx.costs ∙ ap cost same_train ∙ sym cy.costs in
        let same_confirmed : x.confirmed ≡ y.confirmed =
        same_test _ _ (Confirmed N cost differing (stands x.octets)) cx.only_then cx.always_then
        (λ t. subst (Confirmed N cost differing) (sym same_train) (cy.only_then t))
        (λ t. cy.always_then (subst (Confirmed N cost differing) same_train t))
        in
        λ t.
        record {
          symbols = (dx.all_symbols ∙ sym dy.all_symbols) t;
          n = (dx.all_sent ∙ sym dy.all_sent) t;
          cost = same_cost t;
          confirmed = same_confirmed t;
          comparisons = one_number cx.compared cy.compared t;
          octets = same_octets t;
          words = (cx.zeroed ∙ sym cy.zeroed) t;
        }
