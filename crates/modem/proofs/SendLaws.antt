-- What sending a train rests on: each sent bit has its coded bit.
-- Assumes nothing.
use mathlib.Core.Path.{◌≡◌, ◌∙◌}
use mathlib.Core.Bool.{false}
use mathlib.Core.List.{List}
use Prim.Native.Nat.{ℕ, ◌+◌, ◌*◌}
use Rattle.laws.specs.Lists.{filled}
use Rattle.laws.proofs.ListLaws.{filled_at, filled_same}
use Rattle.modes.specs.declared.Kind.{Kind}
use Rattle.modes.specs.Kinds.{first_scrambled}
use Rattle.modes.specs.Pdus.{Pdu, length_of, sent_of}
use Rattle.modes.specs.Description.{LegalList}
use Rattle.places.specs.Trains.{listed}
use Rattle.places.specs.Sending.{train_bit}
use Rattle.places.proofs.SelectionLaws.{origin_place}
use Rattle.places.proofs.TrainLaws.{takes_listed}
use Rattle.coder.specs.Train.{coded_bit}
use Rattle.modem.specs.Entering.{entering, counter_other}
use Rattle.modem.specs.Sent.{sent_by}
use Rattle.modem.specs.Encode.{sent_bit}
use Rattle.modem.proofs.EnteringLaws.{own_counter}

module _ (ps : List Pdu) (counter a : ℕ) (legal : LegalList ps counter a) where
  -- the buffer that holds the sent bits read from the coded bits holds those of the octets
  pub train_sent : (kind : Kind) (octets coded room sent sent' : List ℕ) (n first : ℕ) → n ≡ length_of ps → first ≡ first_scrambled kind
      → counter_other kind counter octets ≡ false
      → coded ≡ filled (2 * (n + 6)) (coded_bit first counter n octets) room
      → sent' ≡ filled (sent_of ps) (train_bit ps a coded) sent
      → sent' ≡ filled (sent_of ps) (sent_bit kind ps counter a octets) sent
  unfolding sent_bit sent_by entering coded_bit train_bit
  train_sent kind octets coded room sent sent' n first en ef same ec es =
      es
      ∙ filled_same (sent_of ps) _ _ sent (λ q h.
      rw (ec, en, ef, own_counter kind counter octets same)
      (filled_at (2 * (length_of ps + 6)) (coded_bit (first_scrambled kind) counter (length_of ps) octets) room _ 0
      (origin_place (listed ps a) (takes_listed ps a legal.fit.each legal.inside) q h).0))
