-- `search::masks::masks_of` makes the masks of the registers 2 j, in order.
-- Assumes nothing.
use Rattle.std.proofs.Common.{◌≡◌, ◌*◌, ℕ, ◌<◌, get_or, length}
use Rattle.search.specs.Stored.{mask_at}
use Rattle.search.proofs.masks.masks_of.Given as goal

abbrev pub invariant-loop-j : goal.invariant-loop-j
invariant-loop-j l = record { count : length l.masks ≡ 32; mask : (i : ℕ) → i < l.j → get_or l.masks i 0 ≡ mask_at l.taps (2 * i) }
