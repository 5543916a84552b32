-- The soft bytes of a train's readings: how many they are, that each lies in its range, and where they stand.
-- Assumes nothing.
use mathlib.Core.Path.{◌≡◌, ◌∙◌, ap₂}
use mathlib.Core.Bool.{true}
use mathlib.Core.List.{List}
use Prim.Native.Nat.{ℕ}
use lib.IntN.{ℤ}
use lib.ListN.{length, take}
use Rattle.laws.specs.Lists.{filled}
use Rattle.laws.proofs.ListLaws.{tabulate_length, filled_take}
use Rattle.modes.specs.Pdus.{Pdu, sent_of}
use Rattle.soft.specs.Carriers.{soft_at, all_soft}
use Rattle.soft.proofs.RangeLaws.{soft_range, all_soft_lem}
use Rattle.modem.specs.Soften.{exact_by, list_exact, list_soft, softened}

module _ (ps : List Pdu) (i q : List ℤ) where
  pub softened_length : length (softened ps i q) ≡ sent_of ps
  unfolding softened
  softened_length = tabulate_length (sent_of ps) (list_soft ps i q)

  pub softened_soft : all_soft (softened ps i q) ≡ true
  unfolding softened list_soft list_exact exact_by soft_at
  softened_soft = all_soft_lem (sent_of ps) (list_soft ps i q) (λ p. soft_range _ _ _ _)

  -- they stand at the front of a longer buffer
  pub front_softened : (soft soft' : List ℤ) (n : ℕ) → n ≡ sent_of ps → soft' ≡ filled (sent_of ps) (list_soft ps i q) soft → take n soft' ≡ softened ps i q
  unfolding softened
  front_softened soft soft' n en e = ap₂ take en e ∙ filled_take (sent_of ps) (list_soft ps i q) soft
