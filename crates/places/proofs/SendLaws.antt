-- One turn of sending a PDU: a symbol's bits at their places make the sent bits of one more symbol.
-- Assumes nothing.
use mathlib.Core.Path.{◌≡◌, refl, sym, ◌∙◌, ap, subst}
use mathlib.Core.List.{List}
use Prim.Native.Nat.{ℕ, ◌+◌, ◌*◌, ◌≤◌, ◌<◌}
use native.Mathlib.Nat.{mul_comm, zero-mul, suc-mul, mul-le-mul_right, le_trans}
use native.Mathlib.Numerals.{add-one}
use native.Mathlib.Omega.{arith}
use lib.Arith.{digits_div, digits_mod}
use lib.Dec.{lit≤}
use lib.ListN.{length, get_or, take}
use Rattle.std.proofs.lemmas.List.{get_or-take, length-take-le}
use Rattle.laws.specs.Lists.{filled}
use Rattle.laws.specs.Scatter.{Seats, Scattered}
use Rattle.laws.proofs.ListLaws.{filled_at, filled_none, filled_length}
use Rattle.laws.proofs.ScatterLaws.{scattered_all}
use Rattle.modes.specs.declared.Constellation.{Constellation}
use Rattle.modes.specs.declared.Constellation.TheVariants.{Bpsk, Qpsk, Qam16, Qam64}
use Rattle.modes.specs.declared.Rate.{Rate}
use Rattle.modes.specs.Modes.{bits_of, bits, bits_in, sent, sent_in, row_of, table1, no_mode}
use Rattle.places.specs.Selection.{origin}
use Rattle.places.specs.Puncture.{p1, p2}
use Rattle.places.specs.Interleaver.{place_in_symbol, no_places, places_of, seated, interleaver}
use Rattle.places.specs.Trains.{pdu_by}
use Rattle.places.specs.Sending.{source_of, Sources, symbol_bits, origin_of, pdu_bit}
use Rattle.places.proofs.SymbolLaws.{seated_length, symbol_place_within, symbol_place_back, symbol_back_within, symbol_back_place}

-- a symbol of S bits: places and bits take each other back
pub record Seating (S b : ℕ) : Type 0 where
  pub within : (k : ℕ) → k < S → place_in_symbol S b k < S
  pub back : (k : ℕ) → k < S → get_or (seated S b S) (place_in_symbol S b k) 0 ≡ k
  pub back_within : (j : ℕ) → j < S → get_or (seated S b S) j 0 < S
  pub forth : (j : ℕ) → j < S → place_in_symbol S b (get_or (seated S b S) j 0) ≡ j

by_number : (k : ℕ) → 1 ≤ k → k ≤ 7 → Seating (sent k) (bits k)
by_number k low high =
    record {
      within = symbol_place_within k low high;
      back = symbol_place_back k low high;
      back_within = symbol_back_within k low high;
      forth = symbol_back_place k low high;
    }

seating : (c : Constellation) → Seating (48 * bits_of c) (bits_of c)
unfolding sent sent_in bits bits_in row_of table1 no_mode
seating Bpsk = by_number 1 (lit≤ tt) (lit≤ tt)
seating Qpsk = by_number 3 (lit≤ tt) (lit≤ tt)
seating Qam16 = by_number 5 (lit≤ tt) (lit≤ tt)
seating Qam64 = by_number 7 (lit≤ tt) (lit≤ tt)

-- an entry of the table of places
pub places_at : (S b k : ℕ) → k < S → get_or (places_of S b) k 0 ≡ place_in_symbol S b k
unfolding places_of
places_at S b k h = filled_at S (place_in_symbol S b) no_places k 0 h

-- the places of a symbol as they are lent
abbrev pub front : ℕ → ℕ → List ℕ
front S b = take S (places_of S b)

front_same : (S b k : ℕ) → k < S → get_or (front S b) k 0 ≡ get_or (places_of S b) k 0
front_same S b k h = get_or-take S (places_of S b) k 0 h

pub front_at : (S b k : ℕ) → k < S → get_or (front S b) k 0 ≡ place_in_symbol S b k
front_at S b k h = front_same S b k h ∙ places_at S b k h

pub front_long : (c : Constellation) → length (front (48 * bits_of c) (bits_of c)) ≡ 48 * bits_of c
unfolding places_of no_places
front_long c =
    let few : 48 * bits_of c ≤ 288 = go c in
    length-take-le (48 * bits_of c) _ (rw (filled_length (48 * bits_of c) (place_in_symbol (48 * bits_of c) (bits_of c)) no_places few) few)
  where
    go : (c : Constellation) → 48 * bits_of c ≤ 288
    go Bpsk = lit≤ tt
    go Qpsk = lit≤ tt
    go Qam16 = lit≤ tt
    go Qam64 = lit≤ tt

pub seated_by : (c : Constellation) (b : ℕ) → b ≡ bits_of c → Seating (48 * b) b
seated_by c b e = subst (λ (n : ℕ). Seating (48 * n) n) (sym e) (seating c)

pub seats : (c : Constellation) (b : ℕ) → b ≡ bits_of c → Seats (places_of (48 * b) b) (48 * b)
seats c b e = go (48 * b) b (seated_by c b e)
  where
    go : (S b : ℕ) → Seating S b → Seats (places_of S b) S
    go S b s =
        record {
          within = λ k h. rw (places_at S b k h) (s.within k h);
          apart = λ i k less h same.
              let e : i ≡ k =
              sym (s.back i (omega arith))
              ∙ ap (λ (j : ℕ). get_or (seated S b S) j 0) (sym (places_at S b i (omega arith)) ∙ same ∙ places_at S b k h)
              ∙ s.back k h
              in omega arith;
        }

pub front_seats : (c : Constellation) (b : ℕ) → b ≡ bits_of c → Seats (front (48 * b) b) (48 * b)
front_seats c b e = go (48 * b) (seats c b e)
  where
    go : (S : ℕ) → Seats (places_of S b) S → Seats (front S b) S
    go S s =
        record {
          within = λ k h. rw (front_same S b k h) (s.within k h);
          apart = λ i k less h same.
              s.apart i k less h (sym (front_same S b i (omega arith)) ∙ same ∙ front_same S b k h);
        }

-- bit j of symbol s, by the interleaver
pub interleaver_origin : (S b s j : ℕ) → j < S → origin (interleaver S b) (s * S + j) ≡ s * S + get_or (seated S b S) j 0
unfolding origin interleaver
interleaver_origin S b s j h = rw (seated_length S b S, digits_div s h, digits_mod s h, mul_comm S s) refl

-- a symbol that is still to come lies within the PDU
pub symbol_inside : (S s symbols : ℕ) → s < symbols → s * S + S ≤ symbols * S
symbol_inside S s symbols h = le_trans (omega (arith, suc-mul s S)) (mul-le-mul_right S h)

-- sources of more bits are sources of fewer
pub sources_fewer : (rate : Rate) (a first n m coded : ℕ) → m ≤ n → Sources rate a first n coded → Sources rate a first m coded
sources_fewer rate a first n m coded less s =
    record {
      punctured = λ q h. s.punctured q (omega arith);
      present = λ q h. s.present q (omega arith);
      apart = λ p q more h. s.apart p q more (omega arith);
    }

-- s symbols are sent
pub record Sent (b : ℕ) (rate : Rate) (a first : ℕ) (coded l₀ l : List ℕ) (s : ℕ) : Type 0 where
  pub long : length l ≡ length l₀
  pub bits : l ≡ filled (symbol_bits b s) (pdu_bit b rate a first coded) l₀

pub sent_none : (b : ℕ) (rate : Rate) (a first : ℕ) (coded l : List ℕ) → Sent b rate a first coded l l 0
sent_none b rate a first coded l =
    record { long = refl; bits = rw (zero-mul (48 * b)) (sym (filled_none (pdu_bit b rate a first coded) l)) }

-- a turn: one symbol more
pub sent_again : (c : Constellation) (b : ℕ) → b ≡ bits_of c → (rate : Rate) (a first : ℕ) (coded l₀ l l' : List ℕ) (s : ℕ)
    → s * (48 * b) + 48 * b ≤ length l₀
    → Sent b rate a first coded l₀ l s
    → Scattered (s * (48 * b)) (48 * b) (front (48 * b) b) (λ k. get_or coded (source_of rate a first (s * (48 * b) + k)) 0) (48 * b) l l'
    → Sent b rate a first coded l₀ l' (s + 1)
unfolding source_of pdu_bit origin_of pdu_by origin
sent_again c b e rate a first coded l₀ l l' s room before h =
    let S = 48 * b in
    let seat = seated_by c b e in
    let next : s * S + S ≡ (s + 1) * S = rw (add-one s) (sym (suc-mul s S)) in
    record {
      long = h.long ∙ before.long;
      bits = rw (← next)
          (scattered_all (s * S) S (front S b) _ _ (λ j. get_or (seated S b S) j 0) l₀ l' room
          (λ j inside. (
            seat.back_within j inside,
            front_at S b _ (seat.back_within j inside) ∙ seat.forth j inside,
            ap (λ (q : ℕ). get_or coded (origin (p1 a) (first + origin (p2 rate) q)) 0) (interleaver_origin S b s j inside),
          ))
          (rw before.bits at h));
    }
