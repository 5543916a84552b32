-- How large the sizes of PDUs and of trains get.
-- Assumes nothing.
use mathlib.Core.Path.{◌≡◌}
use mathlib.Core.List.{List, [], ◌∷◌}
use Prim.Native.Nat.{ℕ, ◌*◌, ◌≤◌}
use native.Mathlib.Nat.{div-add-mod', div-le_of_le-mul, mul_assoc, mul_comm, mul-le-mul_left, mul-le-mul_right, le_trans}
use native.Mathlib.Omega.{arith}
use lib.Dec.{lit≤}
use Rattle.modes.specs.Modes.{sent, sent_in, info, info_in, row_of, table1}
use Rattle.modes.specs.Sizes.{symbols, sent_bits}
use Rattle.modes.specs.Pdus.{Pdu, sum_of, length_of, symbols_of, sent_of}
use Rattle.modes.specs.Description.{Fit, EachFit}
use Rattle.modes.proofs.ModeLaws.{by_mode}

info_from_24 : (k : ℕ) → 1 ≤ k → k ≤ 7 → 24 ≤ info k
unfolding info info_in row_of table1
info_from_24 = by_mode _ (lit≤ tt) (lit≤ tt) (lit≤ tt) (lit≤ tt) (lit≤ tt) (lit≤ tt) (lit≤ tt)

-- whole symbols make the whole train
pub symbols_exact : (k N : ℕ) → Fit k N → symbols k N * info k ≡ N
unfolding symbols
symbols_exact k N fit = omega (arith, div-add-mod' N (info k), fit.whole_symbols)

sent_to_info : (k : ℕ) → 1 ≤ k → k ≤ 7 → sent k ≤ info k * 2
unfolding sent sent_in info info_in row_of table1
sent_to_info = by_mode _ (lit≤ tt) (lit≤ tt) (lit≤ tt) (lit≤ tt) (lit≤ tt) (lit≤ tt) (lit≤ tt)

-- no more bits are sent than the encoder puts out
pub sent_within : (k N : ℕ) → Fit k N → sent_bits k N ≤ 2 * N
unfolding sent_bits
sent_within k N fit =
    le_trans (mul-le-mul_left (symbols k N) (sent_to_info k fit.from_1 fit.to_7))
    (omega (arith, mul_assoc (symbols k N) (info k) 2, symbols_exact k N fit))

-- no PDU has more than 144 symbols
pub symbols_within : (k N : ℕ) → Fit k N → symbols k N ≤ 144
unfolding symbols
symbols_within k N fit =
    let most : N ≤ 24 * 144 = omega (arith, fit.to_3456) in
    div-le_of_le-mul (info k) (le_trans most (mul-le-mul_right 144 (info_from_24 k fit.from_1 fit.to_7)))

-- the same of whole lists
pub sent_of_within : (ps : List Pdu) → EachFit ps → sent_of ps ≤ 2 * length_of ps
unfolding sum_of EachFit
sent_of_within [] each = omega arith
sent_of_within (p ∷ ps) (fit, each) = omega (arith, sent_within p.mode p.length fit, sent_of_within ps each)

-- a symbol has 24 information bits at least
symbols_24 : (k N : ℕ) → Fit k N → 24 * symbols k N ≤ N
symbols_24 k N fit =
    le_trans (mul-le-mul_right (symbols k N) (info_from_24 k fit.from_1 fit.to_7)) (omega (arith, mul_comm (info k) (symbols k N), symbols_exact k N fit))

pub symbols_of_within : (ps : List Pdu) → EachFit ps → 24 * symbols_of ps ≤ length_of ps
unfolding sum_of EachFit
symbols_of_within [] each = omega arith
symbols_of_within (p ∷ ps) (fit, each) = omega (arith, symbols_24 p.mode p.length fit, symbols_of_within ps each)
