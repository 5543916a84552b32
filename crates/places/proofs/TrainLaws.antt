-- How many bits P1, P2, the interleaver and whole trains take and give, and that a list of one PDU is document 01's train.
-- Assumes nothing.
use mathlib.Core.Path.{◌≡◌, refl, sym, ap}
use mathlib.Core.List.{List, [], ◌∷◌, ◌++◌}
use Prim.Native.Nat.{ℕ, ◌+◌, ◌-◌, ◌*◌, ◌/◌, ◌%◌, ◌≤◌, ◌<◌}
use native.Mathlib.Nat.{div-add-mod, mul_comm, mul_left_comm, zero-add}
use native.Mathlib.Omega.{arith}
use lib.Dec.{lit<}
use lib.ListN.{length}
use borrow.Author.Tests.{lt-ltb, le-ltb}
use Rattle.modes.specs.declared.Constellation.{Constellation}
use Rattle.modes.specs.declared.Rate.{Rate}
use Rattle.modes.specs.declared.Rate.TheVariants.{Half, NineSixteenths, ThreeQuarters}
use Rattle.modes.specs.Modes.{constellation_of, bits_of, info_of, row_of, table1, no_mode, rate_of, bits, sent, sent_in, info}
use Rattle.modes.specs.Sizes.{symbols, sent_bits}
use Rattle.modes.specs.Pdus.{Pdu, one, sum_of, pdu_sent, length_of, sent_of}
use Rattle.modes.specs.Description.{EachFit}
use Rattle.modes.proofs.ModeLaws.{by_mode, columns}
use Rattle.places.specs.Selection.{Place, goes_to, dropped, onwards, place, origin, find, later}
use Rattle.places.specs.Puncture.{p1_kept, p1, p2_kept_3_4, p2_kept_9_16, p2}
use Rattle.places.specs.Interleaver.{interleaver}
use Rattle.places.specs.Trains.{pdu, train, pdus, listed}
use Rattle.places.proofs.BlockLaws.{Blocks}
use Rattle.places.proofs.SelectionLaws.{Takes, place_origin}
use Rattle.places.proofs.SymbolLaws.{symbol, symbol_sound, seated_length}

-- P1 drops twelve bits
pub takes_p1 : (a N : ℕ) → a + 72 ≤ N → Takes (p1 a) (2 * (N + 6)) (2 * N)
unfolding Takes p1 p1_kept find later
takes_p1 a N h = (
  2 * (N + 6 - a),
  2 * (N - a),
  omega arith,
  omega arith,
  refl,
  (
    2 * (N + 6 - a) - 156,
    2 * (N - a) - 144,
    omega arith,
    omega arith,
    record { count = 6; takes = refl; gives = refl; some = lit< tt; kept_sound = tt },
    omega arith,
  ),
)

kept34 : {i o : ℕ} (c : ℕ) → i ≡ 6 * c → o ≡ 4 * c → Blocks p2_kept_3_4 6 i o
unfolding p2_kept_3_4 find later
kept34 c takes gives = record { count = c; takes = takes; gives = gives; some = lit< tt; kept_sound = tt }

kept916 : {i o : ℕ} (c : ℕ) → i ≡ 18 * c → o ≡ 16 * c → Blocks p2_kept_9_16 18 i o
unfolding p2_kept_9_16 find later
kept916 c takes gives = record { count = c; takes = takes; gives = gives; some = lit< tt; kept_sound = tt }

-- P2 leaves the whole symbols of any constellation
pub takes_rate : (rate : Rate) (c : Constellation) (s : ℕ) → Takes (p2 rate) (2 * (s * info_of c rate)) (s * (48 * bits_of c))
unfolding Takes p2
takes_rate Half c s = omega (arith, mul_left_comm s 24 (bits_of c), mul_left_comm s 48 (bits_of c))
takes_rate NineSixteenths c s =
    kept916 (3 * (s * bits_of c)) (omega (arith, mul_left_comm s 27 (bits_of c))) (omega (arith, mul_left_comm s 48 (bits_of c)))
takes_rate ThreeQuarters c s =
    kept34 (12 * (s * bits_of c)) (omega (arith, mul_left_comm s 36 (bits_of c))) (omega (arith, mul_left_comm s 48 (bits_of c)))

-- and those of a mode
takes_p2 : (k : ℕ) → 1 ≤ k → k ≤ 7 → (s : ℕ) → Takes (p2 (rate_of k)) (2 * (info k * s)) (sent k * s)
takes_p2 k low high s =
    let (b, S, i) = columns k low high in
    rw (S, b, i, mul_comm (info_of (constellation_of k) (rate_of k)) s, mul_comm (48 * bits_of (constellation_of k)) s)
    (takes_rate (rate_of k) (constellation_of k) s)

pub sent_some : (k : ℕ) → 1 ≤ k → k ≤ 7 → 0 < sent k
unfolding sent sent_in row_of table1 no_mode
sent_some = by_mode _ (lit< tt) (lit< tt) (lit< tt) (lit< tt) (lit< tt) (lit< tt) (lit< tt)

-- the interleaver takes and gives whole symbols
pub takes_interleaver : (k : ℕ) → 1 ≤ k → k ≤ 7 → (s : ℕ) → Takes (interleaver (sent k) (bits k)) (sent k * s) (s * sent k)
unfolding Takes interleaver
takes_interleaver k low high s =
    let same : s * sent k ≡ length (symbol k) * s = rw seated_length (mul_comm s (sent k)) in
    record { count = s; takes = refl; gives = same; some = sent_some k low high; kept_sound = symbol_sound k low high }

pub takes_pdu : (k N : ℕ) → 1 ≤ k → k ≤ 7 → N % info k ≡ 0 → Takes (pdu k) (2 * N) (sent_bits k N)
unfolding Takes pdu sent_bits symbols
takes_pdu k N low high whole =
    let exact : info k * (N / info k) ≡ N = omega (arith, div-add-mod N (info k)) in
    (sent k * (N / info k), rw exact at (takes_p2 k low high (N / info k)), takes_interleaver k low high (N / info k))

pub takes_train : (k N a : ℕ) → 1 ≤ k → k ≤ 7 → N % info k ≡ 0 → a + 72 ≤ N → Takes (train k a) (2 * (N + 6)) (sent_bits k N)
unfolding Takes train
takes_train k N a low high whole fits = (2 * N, takes_p1 a N fits, takes_pdu k N low high whole)

pub takes_pdus : (ps : List Pdu) → EachFit ps → Takes (pdus ps) (2 * length_of ps) (sent_of ps)
unfolding Takes pdus sum_of EachFit
takes_pdus [] fit = refl
takes_pdus (p ∷ ps) (fit, rest) =
    let first = takes_pdu p.mode p.length fit.from_1 fit.to_7 fit.whole_symbols in
    (2 * length_of ps, sent_of ps, omega arith, refl, first, takes_pdus ps rest)

pub takes_listed : (ps : List Pdu) (a : ℕ) → EachFit ps → a + 72 ≤ length_of ps → Takes (listed ps a) (2 * (length_of ps + 6)) (sent_of ps)
unfolding Takes listed
takes_listed ps a fit fits = (2 * length_of ps, takes_p1 a (length_of ps) fits, takes_pdus ps fit)

-- a list of one PDU is document 01's train
pub one_pdu_origin : (k N a q : ℕ) → q < sent_bits k N → origin (listed (one k N) a) q ≡ origin (train k a) q
unfolding origin listed pdus train
one_pdu_origin k N a q h = ap (origin (p1 a)) (rw (lt-ltb q (sent_bits k N) h))

pub one_pdu_place : (k N a m : ℕ) → a + 72 ≤ N → m < 2 * (N + 6) → place (listed (one k N) a) m ≡ place (train k a) m
unfolding place listed pdus train onwards
one_pdu_place k N a m fits h = go (place (p1 a) m) refl
  where
    go : (p : Place) → place (p1 a) m ≡ p → onwards p (place (pdus (one k N))) ≡ onwards p (place (pdu k))
    go (goes_to j) e = rw (lt-ltb j (2 * N) (place_origin (p1 a) (takes_p1 a N fits) m j h e).0)
    go dropped e = refl

-- the sent bits of a PDU in a list: its own P2 and interleaver, from where its share of P1's output begins
pub origin_share : (xs : List Pdu) (p : Pdu) (ys : List Pdu) (q : ℕ) → q < pdu_sent p
    → origin (pdus (xs ++ p ∷ ys)) (sent_of xs + q) ≡ 2 * length_of xs + origin (pdu p.mode) q
unfolding origin pdus sum_of
origin_share [] p ys q h = rw (zero-add q, lt-ltb q (pdu_sent p) h) (sym (zero-add _))
origin_share (x ∷ xs) p ys q h =
    let behind : pdu_sent x ≤ pdu_sent x + sent_of xs + q = omega arith in
    let rest : pdu_sent x + sent_of xs + q - pdu_sent x ≡ sent_of xs + q = omega arith in
    rw (le-ltb _ _ behind, rest) (omega (arith, origin_share xs p ys q h))
