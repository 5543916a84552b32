-- Spreading a PDU's soft bytes symbol by symbol: where bit p of P2's output stands among the sent bits, and one turn.
-- Assumes nothing.
use mathlib.Core.Path.{◌≡◌, refl, sym, ◌∙◌, ap}
use mathlib.Core.List.{List}
use Prim.Native.Nat.{ℕ, ◌+◌, ◌*◌, ◌/◌, ◌%◌, ◌<◌}
use native.Mathlib.Nat.{not-suc-le-zero, mul_comm, zero-mul, suc-mul, mod-lt, div-add-mod, div-lt_iff_lt-mul}
use native.Mathlib.Numerals.{add-one}
use native.Mathlib.Omega.{arith}
use lib.Arith.{digits_div, digits_mod, digits_lt}
use lib.IntN.{ℤ, pos}
use lib.ListN.{get_or}
use Rattle.laws.specs.Scatter.{Placed}
use Rattle.laws.specs.Signed.{counted}
use Rattle.laws.proofs.ScatterLaws.{placed_on}
use Rattle.modes.specs.declared.Constellation.{Constellation}
use Rattle.modes.specs.declared.Rate.{Rate}
use Rattle.modes.specs.Modes.{bits_of}
use Rattle.places.specs.Selection.{origin}
use Rattle.places.specs.Puncture.{p1, p2}
use Rattle.places.specs.Interleaver.{place_in_symbol, seated, interleaver}
use Rattle.places.specs.Trains.{pdu_by}
use Rattle.places.specs.Sending.{source_of, Sources, symbol_bits, origin_of, Spread}
use Rattle.places.proofs.SendLaws.{Seating, seated_by, front, front_at, interleaver_origin}

-- where bit p of P2's output stands among the sent bits
unfoldable pub seat_of : ℕ → ℕ → ℕ
seat_of b p = p / (48 * b) * (48 * b) + place_in_symbol (48 * b) b (p % (48 * b))

-- bit k of symbol s
seat_at : (b s k : ℕ) → k < 48 * b → seat_of b (s * (48 * b) + k) ≡ s * (48 * b) + place_in_symbol (48 * b) b k
unfolding seat_of
seat_at b s k h = rw (digits_div s h, digits_mod s h) refl

-- a number below some symbols' bits is a bit of one of them
record Digits (S n p : ℕ) : Type 0 where
  symbol : ℕ
  bit : ℕ
  is : p ≡ symbol * S + bit
  inside : bit < S
  among : symbol < n

digits : (S n p : ℕ) → 0 < S → p < n * S → Digits S n p
digits S n p some h = record {
  symbol = p / S;
  bit = p % S;
  is = sym (ap (λ (x : ℕ). x + p % S) (mul_comm (p / S) S) ∙ div-add-mod p S);
  inside = mod-lt p some;
  among = (div-lt_iff_lt-mul some).1 h;
}

module _ (b n : ℕ) (some : 0 < 48 * b) (seat : Seating (48 * b) b) where
  -- P2's output and the sent bits take each other back
  seat_origin : (p : ℕ) → p < n * (48 * b) → (seat_of b p < n * (48 * b)) × (origin (interleaver (48 * b) b) (seat_of b p) ≡ p)
  seat_origin p h =
      let S = 48 * b in
      let d : Digits S n p = digits S n p some h in
      let there : seat_of b p ≡ d.symbol * S + place_in_symbol S b d.bit = ap (seat_of b) d.is ∙ seat_at b d.symbol d.bit d.inside in
      rw there (
        digits_lt d.among (seat.within d.bit d.inside),
        interleaver_origin S b d.symbol _ (seat.within d.bit d.inside)
            ∙ ap (λ (k : ℕ). d.symbol * S + k) (seat.back d.bit d.inside)
            ∙ sym d.is,
      )

  origin_seat : (q : ℕ) → q < n * (48 * b)
      → (origin (interleaver (48 * b) b) q < n * (48 * b)) × (seat_of b (origin (interleaver (48 * b) b) q) ≡ q)
  origin_seat q h =
      let S = 48 * b in
      let d : Digits S n q = digits S n q some h in
      let k : ℕ = get_or (seated S b S) d.bit 0 in
      let inside : k < S = seat.back_within d.bit d.inside in
      let there : origin (interleaver S b) q ≡ d.symbol * S + k =
      ap (origin (interleaver S b)) d.is ∙ interleaver_origin S b d.symbol d.bit d.inside
      in
      rw there (
        digits_lt d.among inside,
        seat_at b d.symbol k inside ∙ ap (λ (j : ℕ). d.symbol * S + j) (seat.forth d.bit d.inside) ∙ sym d.is,
      )

-- s symbols are spread
abbrev pub Spreading : ℕ → Rate → ℕ → ℕ → List ℤ → (l₀ l : List ℕ) → ℕ → Type 0
Spreading b rate a first soft l₀ l s =
    Placed (source_of rate a first) (λ p. counted 128 (get_or soft (seat_of b p) (pos 0))) (symbol_bits b s) l₀ l

pub spreading_none : (b : ℕ) (rate : Rate) (a first : ℕ) (soft : List ℤ) (l : List ℕ) → Spreading b rate a first soft l l 0
spreading_none b rate a first soft l =
    rw (zero-mul (48 * b)) (record { long = refl; put = λ k h. absurd (not-suc-le-zero h); others = λ m free. refl })

module _ (b : ℕ) (rate : Rate) (a first : ℕ) (soft : List ℤ) (l₀ l : List ℕ) (s : ℕ) where
  -- a turn: one symbol more
  pub spreading_again : (l' : List ℕ) (coded : ℕ) → Sources rate a first (s * (48 * b) + 48 * b) coded
      → Spreading b rate a first soft l₀ l s
      → Placed (λ k. source_of rate a first (s * (48 * b) + k))
      (λ k. counted 128 (get_or soft (s * (48 * b) + get_or (front (48 * b) b) k 0) (pos 0)))
      (48 * b) l l'
      → Spreading b rate a first soft l₀ l' (s + 1)
  spreading_again l' coded sources before h =
      let S = 48 * b in
      let next : s * S + S ≡ (s + 1) * S = rw (add-one s) (sym (suc-mul s S)) in
      rw (← next)
      (placed_on _ _ (s * S) l₀ l before _ _ S l' h
      (λ k inside. (
        refl,
        ap (λ (q : ℕ). counted 128 (get_or soft q (pos 0)))
            (ap (λ (j : ℕ). s * S + j) (front_at S b k inside) ∙ sym (seat_at b s k inside)),
      ))
      sources.apart)

  -- and when all are spread
  pub spreading_done : (c : Constellation) → b ≡ bits_of c → 0 < b → Spreading b rate a first soft l₀ l s
      → Spread b rate a first (symbol_bits b s) soft l₀ l
  unfolding Spread origin_of source_of pdu_by origin
  spreading_done c e some h =
      let seat = seated_by c b e in
      record {
        long = h.long;
        put = λ q hq.
            let (inside, back) = origin_seat b s (omega arith) seat q hq in
            h.put _ inside ∙ ap (λ (j : ℕ). counted 128 (get_or soft j (pos 0))) back;
        others = λ m free.
            h.others m (λ p hp there.
            let (inside, back) = seat_origin b s (omega arith) seat p hp in
            free _ inside (ap (λ (j : ℕ). origin (p1 a) (first + origin (p2 rate) j)) back ∙ there));
      }
