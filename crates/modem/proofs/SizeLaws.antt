-- Sizes of PDUs and of lists: carriers and the bits that they bear, and whole octets.
-- Assumes nothing.
use mathlib.Core.Path.{◌≡◌, refl}
use mathlib.Core.List.{List, [], ◌∷◌, ◌++◌}
use Prim.Native.Nat.{ℕ, ◌*◌, ◌%◌, ◌≤◌}
use native.Mathlib.Nat.{mul_comm, mul_left_comm}
use native.Mathlib.Omega.{arith}
use Rattle.modes.specs.Modes.{constellation_of, bits_of}
use Rattle.modes.specs.Sizes.{symbols, carriers, sent_bits, octets_of}
use Rattle.modes.specs.Pdus.{Pdu, sum_of, length_of, symbols_of, carriers_of}
use Rattle.modes.specs.Description.{Fit, EachFit}
use Rattle.modes.proofs.ModeLaws.{columns}

-- a PDU of a fit list is fit
pub fit_in : (xs : List Pdu) (p : Pdu) (ys : List Pdu) → EachFit (xs ++ p ∷ ys) → Fit p.mode p.length
unfolding EachFit
fit_in [] p ys (fit, each) = fit
fit_in (x ∷ xs) p ys (fit, each) = fit_in xs p ys each

-- a PDU's sent bits are those of all its carriers
pub carriers_exact : (mode N : ℕ) → Fit mode N → bits_of (constellation_of mode) * carriers mode N ≡ sent_bits mode N
unfolding carriers sent_bits
carriers_exact mode N fit =
    let (b, S, _) = columns mode fit.from_1 fit.to_7 in
    let d = bits_of (constellation_of mode) in
    let s = symbols mode N in
    rw (S, b) (omega (arith, mul_left_comm d 48 s, mul_left_comm s 48 d, mul_comm d s))

-- 48 carriers to a symbol, over all PDUs
pub carriers_symbols : (ps : List Pdu) → carriers_of ps ≡ 48 * symbols_of ps
unfolding sum_of carriers
carriers_symbols [] = refl
carriers_symbols (p ∷ ps) = omega (arith, carriers_symbols ps)

-- PDUs of whole octets make a train of whole octets
pub octets_whole : (ps : List Pdu) → EachFit ps → length_of ps % 8 ≡ 0
unfolding sum_of EachFit
octets_whole [] each = refl
octets_whole (p ∷ ps) (fit, each) = omega (arith, fit.whole_octets, octets_whole ps each)

pub octets_enough : (N octets : ℕ) → N % 8 ≡ 0 → octets ≡ octets_of N → N ≤ 8 * octets
unfolding octets_of
octets_enough N octets whole e = omega (arith, whole, e)
