-- A decode goes by the counter that it heeds: of a BCH the caller's is not read.
-- Assumes nothing.
use mathlib.Core.Path.{◌≡◌, subst}
use mathlib.Core.List.{List}
use Prim.Native.Nat.{ℕ}
use lib.IntN.{ℤ}
use Rattle.modes.specs.declared.Kind.{Kind}
use Rattle.modes.specs.declared.Kind.TheVariants.{Data, Bch}
use Rattle.modes.specs.Kinds.{heeded}
use Rattle.modes.specs.Pdus.{Pdu}
use Rattle.modes.specs.Refusals.{decode_described}
use Rattle.modem.specs.Entering.{entering}
use Rattle.modem.specs.Decode.{Outcome, train_of, soft_refusal, DecodeSoft, readings_refusal, DecodeReadings}

module _ (kind : Kind) (ps : List Pdu) (counter counter' a : ℕ) where
  pub heeded_soft : (soft : List ℤ) (octets words : List ℕ) (r : ℕ) (o : Outcome) → heeded kind counter ≡ heeded kind counter'
      → DecodeSoft kind ps counter a soft octets words r o → DecodeSoft kind ps counter' a soft octets words r o
  heeded_soft soft octets words r o same = go kind same
    where
      go : (k : Kind) → heeded k counter ≡ heeded k counter' → DecodeSoft k ps counter a soft octets words r o → DecodeSoft k ps counter' a soft octets words r o
      go Data same h = subst (λ (c : ℕ). DecodeSoft Data ps c a soft octets words r o) same h
      go Bch same h = unfold DecodeSoft in unfold soft_refusal in unfold decode_described in unfold train_of in unfold entering in h

  pub heeded_readings : (i q : List ℤ) (octets words : List ℕ) (r : ℕ) (o : Outcome) → heeded kind counter ≡ heeded kind counter'
      → DecodeReadings kind ps counter a i q octets words r o → DecodeReadings kind ps counter' a i q octets words r o
  heeded_readings i q octets words r o same = go kind same
    where
      go : (k : Kind) → heeded k counter ≡ heeded k counter' → DecodeReadings k ps counter a i q octets words r o → DecodeReadings k ps counter' a i q octets words r o
      go Data same h = subst (λ (c : ℕ). DecodeReadings Data ps c a i q octets words r o) same h
      go Bch same h = unfold DecodeReadings in unfold readings_refusal in unfold decode_described in unfold train_of in unfold entering in h
