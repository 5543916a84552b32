-- What is known once a description has passed its tests, is held as a Train and has been counted.
-- Assumes nothing.
use mathlib.Core.Path.{◌≡◌, ◌∙◌, ap}
use mathlib.Core.List.{List}
use Prim.Native.Nat.{ℕ, ◌*◌, ◌≤◌}
use native.Mathlib.Omega.{arith}
use lib.IntN.{ℤ}
use Rattle.laws.specs.Ladder.{ladder}
use Rattle.laws.specs.Lists.{filled}
use Rattle.modes.specs.declared.Kind.{Kind}
use Rattle.modes.specs.declared.train.Train.{Train}
use Rattle.modes.specs.Kinds.{heeded}
use Rattle.modes.specs.Pdus.{Pdu, length_of, symbols_of, carriers_of, sent_of}
use Rattle.modes.specs.Refusals.{encode_described, decode_described}
use Rattle.modes.specs.Description.{LegalList}
use Rattle.modes.specs.Passed.{pdus_in, Describes}
use Rattle.modes.proofs.KindLaws.{heeded_described}
use Rattle.modes.proofs.SizeLaws.{symbols_of_within, sent_of_within}
use Rattle.modes.proofs.DescriptionLaws.{fit_in}
use Rattle.modem.specs.Encode.{sent_bit}
use Rattle.modem.specs.Ideal.{list_i, list_q}
use Rattle.modem.specs.Soften.{list_soft}
use Rattle.modem.specs.Decode.{Outcome, DecodedList}
use Rattle.modem.proofs.SizeLaws.{carriers_symbols}
use Rattle.modem.proofs.EnteringLaws.{heeded_train}

-- the counts of a train
pub record Tallied (ps : List Pdu) (n symbols sent : ℕ) : Type 0 where
  pub n_is : n ≡ length_of ps
  pub carriers_is : 48 * symbols ≡ carriers_of ps
  pub symbols_is : symbols ≡ symbols_of ps
  pub sent_is : sent ≡ sent_of ps

-- what was counted of the Train was counted of the list
pub tallied : (ps : List Pdu) (t : Train) (n symbols sent : ℕ) → pdus_in t ≡ ps
    → n ≡ length_of (pdus_in t) → symbols ≡ symbols_of (pdus_in t) → sent ≡ sent_of (pdus_in t) → Tallied ps n symbols sent
tallied ps t n symbols sent same en es eb =
    let symbols_is : symbols ≡ symbols_of ps = es ∙ ap symbols_of same in
    record {
      n_is = en ∙ ap length_of same;
      carriers_is = omega (arith, symbols_is, carriers_symbols ps);
      symbols_is = symbols_is;
      sent_is = eb ∙ ap sent_of same;
    }

-- a Train is short
pub train_short : (t : Train) → (length_of (pdus_in t) ≤ 3456) × (symbols_of (pdus_in t) ≤ 144) × (sent_of (pdus_in t) ≤ 6912)
train_short t =
    let fit = fit_in t in (
      fit.to_3456,
      omega (arith, symbols_of_within (pdus_in t) fit.each, fit.to_3456),
      omega (arith, sent_of_within (pdus_in t) fit.each, fit.to_3456),
    )

-- and has 48 carriers for each of its symbols
pub train_carriers : (t : Train) {symbols : ℕ} → symbols ≡ symbols_of (pdus_in t) → 48 * symbols ≡ carriers_of (pdus_in t)
train_carriers t es = omega (arith, es, carriers_symbols (pdus_in t))

module _ {kind : Kind} {ps : List Pdu} {counter a : ℕ} {t : Train} (holds : Describes kind ps counter a t) where
  -- a description that passes has a legal Train
  pub passed_legal : LegalList ps counter a → LegalList (pdus_in t) t.counter t.a
  passed_legal legal = rw (holds.list_is, holds.counter_is, holds.a_is) legal

  -- what was sent by the Train's fields was sent by the description
  pub passed_sent : (octets sent sent' : List ℕ)
      → sent' ≡ filled (sent_of (pdus_in t)) (sent_bit t.kind (pdus_in t) t.counter t.a octets) sent
      → sent' ≡ filled (sent_of ps) (sent_bit kind ps counter a octets) sent
  passed_sent octets sent sent' e = rw (holds.list_is, holds.counter_is, holds.a_is, holds.kind_is) at e

  -- and likewise readings and soft bytes
  pub passed_read : (sent : List ℕ) (i q i' q' : List ℤ)
      → i' ≡ filled (carriers_of (pdus_in t)) (list_i (pdus_in t) sent) i → q' ≡ filled (carriers_of (pdus_in t)) (list_q (pdus_in t) sent) q
      → ◌≡◌ {A = List ℤ × List ℤ} (i', q') (filled (carriers_of ps) (list_i ps sent) i, filled (carriers_of ps) (list_q ps sent) q)
  passed_read sent i q i' q' ei eq =
      let on_i = rw holds.list_is at ei in
      let on_q = rw holds.list_is at eq in
      λ k. (on_i k, on_q k)

  pub passed_softened : (i q soft soft' : List ℤ)
      → soft' ≡ filled (sent_of (pdus_in t)) (list_soft (pdus_in t) i q) soft → soft' ≡ filled (sent_of ps) (list_soft ps i q) soft
  passed_softened i q soft soft' e = rw holds.list_is at e

-- what was decoded by the Train's fields was decoded by the description, of which a decode heeds the counter that it goes by
pub passed_decoded : (kind : Kind) (ps : List Pdu) (counter a : ℕ) (t : Train) → Describes kind ps (heeded kind counter) a t
    → (soft : List ℤ) (octets words : List ℕ) (o : Outcome)
    → DecodedList t.kind (pdus_in t) t.counter t.a soft octets words o → DecodedList kind ps counter a soft octets words o
passed_decoded kind ps counter a t holds soft octets words o d =
    rw (holds.list_is, holds.counter_is, holds.a_is, holds.kind_is, heeded_train kind counter (length_of ps)) at d

-- what was tested for the counter that a decode heeds was tested for the caller's
pub heeded_tested : (kind : Kind) (ps : List Pdu) (counter a r : ℕ) → r ≡ ladder (encode_described kind ps (heeded kind counter) a)
    → r ≡ ladder (decode_described kind ps counter a)
heeded_tested kind ps counter a r tested = tested ∙ heeded_described kind ps counter a
