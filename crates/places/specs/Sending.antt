-- What the code that sends one PDU, or spreads its soft bytes, is lent, and what it leaves: b bits per carrier, and a share of P1's
-- output that begins at `first`. Then the same for a whole train.
--   source_of    the coded bit that P1 and then the PDU's P2 put out at q
--   Sources      there is such a coded bit for each of n sent bits, and no two are the same
--   symbol_bits  the sent bits of so many symbols
--   origin_of    the coded bit that is the PDU's sent bit q
--   pdu_bit      the PDU's sent bit q
--   PduRoom      what the code asks of a PDU and of the lengths of what it is lent
--   Spread       the PDU's soft bytes, counted from -128, stand at their coded bits; all else is as it was
--   train_bit    sent bit q of a list of PDUs
--   TrainRoom    what the code asks of a and of the lengths of what it is lent
--   SpreadAll    the train's soft bytes, counted from -128, stand at their coded bits; all else is as it was
-- Assumes nothing.
use Rattle.std.specs.Prelude.{ℕ, ◌+◌, ◌*◌, ◌<◌, ◌≤◌, ◌≡◌, List, ℤ, pos, get_or}
use Rattle.laws.specs.Scatter.{Placed}
use Rattle.laws.specs.Signed.{counted}
use Rattle.modes.specs.declared.Rate.{Rate}
use Rattle.places.specs.Selection.{origin}
use Rattle.places.specs.Puncture.{p1, p2}
use Rattle.modes.specs.Pdus.{Pdu, length_of, sent_of}
use Rattle.places.specs.Trains.{pdu_by, listed}

-- the coded bit that P1 and then the PDU's P2 put out at q
unfoldable pub source_of : Rate → ℕ → ℕ → ℕ → ℕ
source_of rate a first q = origin (p1 a) (first + origin (p2 rate) q)

-- there is such a coded bit, among so many, for each of n sent bits, and no two are the same
pub record Sources (rate : Rate) (a first n coded : ℕ) : Type 0 where
  pub punctured : (q : ℕ) → q < n → first + origin (p2 rate) q < 6912
  pub present : (q : ℕ) → q < n → source_of rate a first q < coded
  pub apart : (p q : ℕ) → p < q → q < n → source_of rate a first p ≡ source_of rate a first q → ⊥

-- the sent bits of so many symbols
abbrev pub symbol_bits : ℕ → ℕ → ℕ
symbol_bits b symbols = symbols * (48 * b)

-- the coded bit that is the PDU's sent bit q
unfoldable pub origin_of : ℕ → Rate → ℕ → ℕ → ℕ → ℕ
origin_of b rate a first q = origin (p1 a) (first + origin (pdu_by b rate) q)

-- the PDU's sent bit q, among a train's coded bits
unfoldable pub pdu_bit : ℕ → Rate → ℕ → ℕ → List ℕ → ℕ → ℕ
pdu_bit b rate a first coded q = get_or coded (origin_of b rate a first q) 0

-- so many coded bits hold a source of each sent bit, and there is room for the sent bits
pub record PduRoom (b : ℕ) (rate : Rate) (symbols a first coded sent : ℕ) : Type 0 where
  pub place : a ≤ 3456
  pub few : symbol_bits b symbols ≤ 6912
  pub room : symbol_bits b symbols ≤ sent
  pub sources : Sources rate a first (symbol_bits b symbols) coded

-- n soft bytes of a PDU, counted from -128, stand at the coded bits that they are of; all else is as it was
unfoldable pub Spread : ℕ → Rate → ℕ → ℕ → ℕ → List ℤ → (heard heard' : List ℕ) → Type 0
Spread b rate a first n soft heard heard' =
    Placed (origin_of b rate a first) (λ q. counted 128 (get_or soft q (pos 0))) n heard heard'

-- sent bit q of a list of PDUs, among a train's coded bits
unfoldable pub train_bit : List Pdu → ℕ → List ℕ → ℕ → ℕ
train_bit ps a coded q = get_or coded (origin (listed ps a) q) 0

-- P1 lies inside the list; so many coded bits are all of them, and there is room for the sent bits
pub record TrainRoom (ps : List Pdu) (a coded sent : ℕ) : Type 0 where
  pub inside : a + 72 ≤ length_of ps
  pub all_coded : 2 * (length_of ps + 6) ≤ coded
  pub room : sent_of ps ≤ sent

-- the soft bytes of all PDUs, counted from -128, stand at the coded bits that they are of; all else is as it was
unfoldable pub SpreadAll : List Pdu → ℕ → List ℤ → (heard heard' : List ℕ) → Type 0
SpreadAll ps a soft heard heard' = Placed (origin (listed ps a)) (λ q. counted 128 (get_or soft q (pos 0))) (sent_of ps) heard heard'
