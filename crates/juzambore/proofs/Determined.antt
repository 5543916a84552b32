-- The C names of the decodes fix their answers too: their promises are those of `modem`, with the mark as 1 or 0. (The other C names have
-- the very promises of their calls.)
-- Assumes nothing.
use mathlib.Core.Path.{◌≡◌, refl, sym}
use mathlib.Core.Bool.{true≢false}
use mathlib.Core.List.{List}
use Prim.Native.Nat.{ℕ, zero, suc, ◌≤◌}
use native.Mathlib.Omega.{arith}
use lib.Dec.{eqb}
use lib.IntN.{ℤ}
use Rattle.modes.specs.declared.Kind.{Kind}
use Rattle.modes.specs.Pdus.{Pdu}
use Rattle.modem.specs.Decode.{outcome, DecodeSoft, DecodeReadings}
use Rattle.modem.proofs.Determined.{decode_soft_determined, decode_readings_determined}

-- a flag is 1 or 0
flag_one : (c c' : ℕ) → c ≤ 1 → c' ≤ 1 → eqb c 1 ≡ eqb c' 1 → c ≡ c'
flag_one zero zero h h' e = refl
flag_one zero (suc zero) h h' e = absurd (true≢false (sym e))
flag_one (suc zero) zero h h' e = absurd (true≢false e)
flag_one (suc zero) (suc zero) h h' e = refl
flag_one zero (suc (suc c')) h h' e = absurd (omega arith)
flag_one (suc zero) (suc (suc c')) h h' e = absurd (omega arith)
flag_one (suc (suc c)) c' h h' e = absurd (omega arith)

pub juzambore_soft_determined : (kind : Kind) (ps : List Pdu) (counter a : ℕ) (soft : List ℤ) (octets words : List ℕ) (r r' s s' n n' k k' c c' p p' : ℕ) (o o' w w' : List ℕ)
    → DecodeSoft kind ps counter a soft octets words r (outcome s n k (eqb c 1) p o w) → c ≤ 1
    → DecodeSoft kind ps counter a soft octets words r' (outcome s' n' k' (eqb c' 1) p' o' w') → c' ≤ 1
    → (r ≡ r') × (c ≡ c') × (outcome s n k (eqb c 1) p o w ≡ outcome s' n' k' (eqb c' 1) p' o' w')
juzambore_soft_determined kind ps counter a soft octets words r r' s s' n n' k k' c c' p p' o o' w w' h low h' low' =
    let (same, left) = decode_soft_determined kind ps counter a soft octets words r r' _ _ h h' in
    (same, flag_one c c' low low' (λ t. (left t).confirmed), left)

pub juzambore_readings_determined : (kind : Kind) (ps : List Pdu) (counter a : ℕ) (i q : List ℤ) (octets words : List ℕ) (r r' s s' n n' k k' c c' p p' : ℕ) (o o' w w' : List ℕ)
    → DecodeReadings kind ps counter a i q octets words r (outcome s n k (eqb c 1) p o w) → c ≤ 1
    → DecodeReadings kind ps counter a i q octets words r' (outcome s' n' k' (eqb c' 1) p' o' w') → c' ≤ 1
    → (r ≡ r') × (c ≡ c') × (outcome s n k (eqb c 1) p o w ≡ outcome s' n' k' (eqb c' 1) p' o' w')
juzambore_readings_determined kind ps counter a i q octets words r r' s s' n n' k k' c c' p p' o o' w w' h low h' low' =
    let (same, left) = decode_readings_determined kind ps counter a i q octets words r r' _ _ h h' in
    (same, flag_one c c' low low' (λ t. (left t).confirmed), left)
