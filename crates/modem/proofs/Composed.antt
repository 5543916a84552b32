-- `decode_readings` is `soften` and then `decode_soft`: what these two may answer is what it may answer (and each answer is fixed: Determined).
-- Assumes nothing.
use mathlib.Core.Path.{◌≡◌, refl, sym, ◌∙◌, ap}
use mathlib.Core.Bool.{false}
use mathlib.Core.List.{List}
use Prim.Native.Nat.{ℕ, ◌≤◌}
use native.Mathlib.Omega.{arith}
use lib.IntN.{ℤ}
use lib.ListN.{length, take}
use lib.Seq.{take_all}
use borrow.Author.Tests.{eq-eqb, le-ltb}
use Rattle.laws.proofs.LadderLaws.{given_passed, given_goes_on}
use Rattle.laws.proofs.ListLaws.{filled_take, filled_length}
use Rattle.modes.specs.declared.Kind.{Kind}
use Rattle.modes.specs.Pdus.{Pdu, carriers_of, sent_of}
use Rattle.modem.specs.Lent.{readings_wrong}
use Rattle.modem.specs.Soften.{list_soft, softened, soften_refusal, Soften}
use Rattle.modem.specs.Decode.{Outcome, soft_refusal, DecodeSoft, readings_refusal, DecodeReadings}
use Rattle.modem.proofs.LentLaws.{lent_passed, lent_passes}
use Rattle.modem.proofs.SoftenedLaws.{softened_length, softened_soft}
use Rattle.modem.proofs.ChainLaws.{decode_fits}

module _ (ps : List Pdu) (i q soft : List ℤ) where
  -- readings that are softened are of the right counts
  right_of : soften_refusal ps i q soft ≡ 0 → readings_wrong (carriers_of ps) i q ≡ false
  unfolding soften_refusal
  right_of e = (lent_passed 8 _ _ _ (given_passed _ _ e).1).0

  -- and a buffer of just their length then holds the soft bytes alone
  all_softened : (soft' : List ℤ) → length soft ≡ sent_of ps → Soften ps i q soft 0 soft' → soft' ≡ softened ps i q
  unfolding Soften softened
  all_softened soft' exact h =
      let n : ℕ = sent_of ps in
      let is = h.done refl in
      let long : length soft' ≤ n = rw (is, filled_length n (list_soft ps i q) soft (omega (arith, exact))) (omega (arith, exact)) in
      sym (take_all n soft' long) ∙ ap (take n) is ∙ filled_take n (list_soft ps i q) soft

module _ (kind : Kind) (ps : List Pdu) (counter a : ℕ) (i q : List ℤ) (octets words : List ℕ) where
  same_refusal : readings_wrong (carriers_of ps) i q ≡ false
      → soft_refusal kind ps counter a (softened ps i q) octets words ≡ readings_refusal kind ps counter a i q octets words
  unfolding soft_refusal readings_refusal
  same_refusal right = rw (eq-eqb _ _ (softened_length ps i q), softened_soft ps i q, right)

  -- soft bytes made by `soften` in a buffer of their length, and decoded by `decode_soft`, refused or not
  pub readings_composed : (soft soft' : List ℤ) (r : ℕ) (o : Outcome) → length soft ≡ sent_of ps
      → Soften ps i q soft 0 soft' → DecodeSoft kind ps counter a soft' octets words r o → DecodeReadings kind ps counter a i q octets words r o
  unfolding DecodeSoft DecodeReadings Soften
  readings_composed soft soft' r o exact made h =
      rw (← same_refusal (right_of ps i q soft (sym made.answer))) (rw (all_softened ps i q soft soft' exact made) at h)

  -- where `decode_readings` is done, so is `soften`, given the room
  pub readings_soften : (soft : List ℤ) → sent_of ps ≤ length soft → readings_refusal kind ps counter a i q octets words ≡ 0 → soften_refusal ps i q soft ≡ 0
  unfolding readings_refusal soften_refusal
  readings_soften soft room e =
      let (zero, rest) = given_passed _ _ e in
      given_goes_on _ _ (decode_fits kind ps counter a zero) ∙ lent_passes 9 _ _ _ (lent_passed 8 _ _ _ rest).0 (le-ltb _ _ room) refl
