-- Every call's promise fixes its answer and what it leaves: two that it allows, for the same inputs and entry buffers, are the same.
-- Assumes nothing.
use mathlib.Core.Path.{◌≡◌}
use mathlib.Core.List.{List}
use Prim.Native.Nat.{ℕ}
use native.Mathlib.Omega.{arith}
use lib.Ieee.{Float}
use lib.IntN.{ℤ}
use lib.ListN.{take}
use Rattle.laws.specs.Ladder.{ladder}
use Rattle.laws.proofs.AnswerLaws.{fixed, determined}
use Rattle.laws.proofs.LadderLaws.{given_passed}
use Rattle.modes.specs.declared.Kind.{Kind}
use Rattle.modes.specs.Sizes.{octets_of}
use Rattle.modes.specs.Pdus.{Pdu, length_of}
use Rattle.modes.specs.Refusals.{decode_described}
use Rattle.modes.proofs.KindLaws.{decode_legal}
use Rattle.unique.specs.Sameness.{Octets}
use Rattle.modem.specs.Encode.{Encode}
use Rattle.modem.specs.Ideal.{Ideal}
use Rattle.modem.specs.Point.{MapsTo}
use Rattle.modem.specs.Soften.{Soften}
use Rattle.modem.specs.Decode.{Outcome, train_of, soft_refusal, DecodeSoft, readings_refusal, DecodeReadings}
use Rattle.modem.proofs.SizeLaws.{octets_whole}
use Rattle.modem.proofs.EnteringLaws.{entering_back}
use Rattle.modem.proofs.OutcomeLaws.{decoded_one}

pub encode_determined : (kind : Kind) (ps : List Pdu) (counter a : ℕ) (octets sent : List ℕ) (r r' : ℕ) (s s' : List ℕ)
    → Encode kind ps counter a octets sent r s → Encode kind ps counter a octets sent r' s' → (r ≡ r') × (s ≡ s')
unfolding Encode
encode_determined kind ps counter a octets sent r r' s s' p q = determined _ _ _ r r' s s' p q

pub ideal_determined : (ps : List Pdu) (sent : List ℕ) (i q : List ℤ) (r r' : ℕ) (i₁ q₁ i₂ q₂ : List ℤ)
    → Ideal ps sent i q r i₁ q₁ → Ideal ps sent i q r' i₂ q₂ → (r ≡ r') × (i₁ ≡ i₂) × (q₁ ≡ q₂)
unfolding Ideal
ideal_determined ps sent i q r r' i₁ q₁ i₂ q₂ p p' =
    let (same, left) = determined _ _ _ r r' (i₁, q₁) (i₂, q₂) p p' in
    (same, λ t. (left t).0, λ t. (left t).1)

pub mapped_determined : (mode group r r' : ℕ) (i i' q q' : Float)
    → MapsTo mode group r i q → MapsTo mode group r' i' q' → (r ≡ r') × (i ≡ i') × (q ≡ q')
unfolding MapsTo
mapped_determined mode group r r' i i' q q' p p' =
    let (same, left) = determined _ _ _ r r' (i, q) (i', q') p p' in
    (same, λ t. (left t).0, λ t. (left t).1)

pub soften_determined : (ps : List Pdu) (i q soft : List ℤ) (r r' : ℕ) (s s' : List ℤ)
    → Soften ps i q soft r s → Soften ps i q soft r' s' → (r ≡ r') × (s ≡ s')
unfolding Soften
soften_determined ps i q soft r r' s s' p p' = determined _ _ _ r r' s s' p p'

-- the train of a description that is not refused determines its octets
train_back : (kind : Kind) (ps : List Pdu) (counter a : ℕ) → ladder (decode_described kind ps counter a) ≡ 0
    → (x y : List ℕ)
    → Octets (octets_of (length_of ps)) (take (octets_of (length_of ps)) x) → Octets (octets_of (length_of ps)) (take (octets_of (length_of ps)) y)
    → train_of kind counter (length_of ps) x ≡ train_of kind counter (length_of ps) y → take (octets_of (length_of ps)) x ≡ take (octets_of (length_of ps)) y
unfolding train_of
train_back kind ps counter a zero x y hx hy =
    let legal = decode_legal kind ps counter a zero in
    entering_back kind counter (length_of ps) (octets_whole ps legal.fit.each) (omega (arith, legal.inside)) _ _ hx hy

pub decode_soft_determined : (kind : Kind) (ps : List Pdu) (counter a : ℕ) (soft : List ℤ) (octets words : List ℕ) (r r' : ℕ) (o o' : Outcome)
    → DecodeSoft kind ps counter a soft octets words r o → DecodeSoft kind ps counter a soft octets words r' o' → (r ≡ r') × (o ≡ o')
unfolding DecodeSoft soft_refusal
decode_soft_determined kind ps counter a soft octets words r r' o o' =
    fixed _ _ _ (λ zero. decoded_one (train_of kind counter (length_of ps)) _ _ _ _ _ octets words (train_back kind ps counter a (given_passed _ _ zero).0)) r r' o o'

pub decode_readings_determined : (kind : Kind) (ps : List Pdu) (counter a : ℕ) (i q : List ℤ) (octets words : List ℕ) (r r' : ℕ) (o o' : Outcome)
    → DecodeReadings kind ps counter a i q octets words r o → DecodeReadings kind ps counter a i q octets words r' o' → (r ≡ r') × (o ≡ o')
unfolding DecodeReadings readings_refusal
decode_readings_determined kind ps counter a i q octets words r r' o o' =
    fixed _ _ _ (λ zero. decoded_one (train_of kind counter (length_of ps)) _ _ _ _ _ octets words (train_back kind ps counter a (given_passed _ _ zero).0)) r r' o o'
