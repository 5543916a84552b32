-- The path costs of a decode: by soft bytes that are not refused, after each step of the search two reached states lie less than 1,024
-- apart, of the mark's pass less than 2,048, and so the wrapped comparisons are the true ones.
-- Assumes nothing.
use mathlib.Core.Path.{◌≡◌}
use mathlib.Core.Bool.{true}
use mathlib.Core.List.{List}
use Prim.Native.Nat.{ℕ, ◌+◌, ◌≤◌}
use lib.IntN.{ℤ}
use lib.ListN.{replicate}
use Rattle.modes.specs.Pdus.{Pdu, length_of}
use Rattle.modes.specs.Description.{EachFit}
use Rattle.places.specs.Sending.{SpreadAll}
use Rattle.search.specs.Spread.{SoftBytes, search_spread, mark_spread, InOrder}
use Rattle.search.proofs.ForwardLaws.{first, Forward}
use Rattle.search.proofs.MarkLaws.{second, Marking}
use Rattle.search.proofs.SpreadLaws.{search_in_order, mark_in_order}
use Rattle.soft.specs.Carriers.{all_soft}
use Rattle.modem.proofs.HeardLaws.{all_heard, spread_soft}

-- soft bytes of a train, tested, and spread over its coded bits
module _ (ps : List Pdu) (a : ℕ) (each : EachFit ps) (inside : a + 72 ≤ length_of ps) (soft : List ℤ) (heard : List ℕ) (k : ℕ)
    (spread : SpreadAll ps a soft (replicate k 0) heard) (in_range : all_soft soft ≡ true) where
  in_soft_bytes : SoftBytes heard
  in_soft_bytes = spread_soft ps a each inside soft heard k spread (λ q _. all_heard soft in_range q) in_range

  pub search_spread_lem : (words₀ words costs : List ℕ) (total t : ℕ) → Forward (length_of ps) heard words₀ words costs total t
      → InOrder (first heard) 160 search_spread (length_of ps) t costs
  search_spread_lem = search_in_order heard in_soft_bytes (length_of ps)

  pub mark_spread_lem : (w costs : List ℕ) (r t : ℕ) → Marking (length_of ps) heard w costs r t
      → InOrder (second heard w) 322 mark_spread (length_of ps) t costs
  mark_spread_lem = mark_in_order heard in_soft_bytes (length_of ps)
