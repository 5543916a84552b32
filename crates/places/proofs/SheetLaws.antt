-- The interleaver's sheet: each of its entries is a bit's place by the rule of clause 5.4.
-- Assumes nothing.
use mathlib.Core.Path.{◌≡◌, ◌∙◌, ap}
use mathlib.Core.List.{List, ◌∷◌, ◌++◌}
use Prim.Native.Nat.{ℕ, ◌+◌, ◌-◌, ◌*◌, ◌<◌, ◌≤◌}
use native.Mathlib.Nat.{zero-add}
use native.Mathlib.Omega.{arith}
use borrow.Author.Tests.{lt-ltb, le-ltb}
use lib.Dec.{lit≤}
use lib.ListN.{take, drop}
use lib.Seq.{take_at, drop_at}
use Rattle.std.specs.Prelude.{replicate}
use Rattle.laws.specs.Lists.{tabulate, filled}
use Rattle.laws.proofs.ListLaws.{tabulate_length, tabulate_append, tabulate_ext}
use Rattle.modes.specs.declared.Constellation.{Constellation}
use Rattle.modes.specs.declared.Constellation.TheVariants.{Bpsk, Qpsk, Qam16, Qam64}
use Rattle.modes.specs.Modes.{bits_of}
use Rattle.places.specs.Interleaver.{place_in_symbol, entry_of, sheet, block_of, no_places, places_of}

-- an entry of the first block, and one of what follows
module _ (b : ℕ) (bs : List ℕ) (k : ℕ) where
  inside : k < 48 * b → entry_of (b ∷ bs) k ≡ place_in_symbol (48 * b) b k
  unfolding entry_of
  inside h = simp (lt-ltb k (48 * b) h)

  past : entry_of (b ∷ bs) (48 * b + k) ≡ entry_of bs k
  unfolding entry_of
  past =
      let behind : 48 * b + k - 48 * b ≡ k = omega arith in
      simp (le-ltb (48 * b + k) (48 * b) (omega arith), behind)

-- entry k of a constellation's block is the place of bit k
pub sheet_at : (c : Constellation) (k : ℕ) → k < 48 * bits_of c → sheet (block_of c + k) ≡ place_in_symbol (48 * bits_of c) (bits_of c) k
unfolding sheet
sheet_at Bpsk k h = rw (zero-add k) (inside 1 _ k h)
sheet_at Qpsk k h = past 1 _ k ∙ inside 2 _ k h
sheet_at Qam16 k h =
    let behind : 144 + k ≡ 48 + (96 + k) = omega arith in
    rw behind (past 1 _ (96 + k) ∙ past 2 _ k ∙ inside 4 _ k h)
sheet_at Qam64 k h =
    let behind : 336 + k ≡ 48 + (96 + (192 + k)) = omega arith in
    rw behind (past 1 _ (96 + (192 + k)) ∙ past 2 _ (192 + k) ∙ past 4 _ k ∙ inside 6 _ k h)

-- and stands on the sheet
pub block_within : (c : Constellation) → block_of c + 48 * bits_of c ≤ 624
block_within Bpsk = lit≤ tt
block_within Qpsk = lit≤ tt
block_within Qam16 = lit≤ tt
block_within Qam64 = lit≤ tt

-- what is copied from a constellation's block is the table of its symbols' places
block_taken : (c : Constellation) → take (48 * bits_of c) (drop (block_of c) (tabulate 624 sheet)) ≡ tabulate (48 * bits_of c) (place_in_symbol (48 * bits_of c) (bits_of c))
block_taken c =
    let B = block_of c in
    let S = 48 * bits_of c in
    let R = 624 - (B + S) in
    let e : 624 ≡ B + (S + R) = omega (arith, block_within c) in
    ap (λ (n : ℕ). take S (drop B (tabulate n sheet))) e
    ∙ ap (λ (l : List ℕ). take S (drop B l)) (tabulate_append B (S + R) sheet)
    ∙ ap (λ (l : List ℕ). take S l) (drop_at (tabulate B sheet) (tabulate (S + R) (λ k. sheet (B + k))) B (tabulate_length B sheet))
    ∙ ap (λ (l : List ℕ). take S l) (tabulate_append S R (λ k. sheet (B + k)))
    ∙ take_at (tabulate S (λ k. sheet (B + k))) _ S (tabulate_length S (λ k. sheet (B + k)))
    ∙ tabulate_ext S _ _ (λ k h. sheet_at c k h)

pub block_copied : (c : Constellation) (table part : List ℕ) (at k n : ℕ) → table ≡ tabulate 624 sheet → at ≡ block_of c
    → k ≡ 48 * bits_of c → n ≡ k → part ≡ take n (drop at table) → part ++ drop k (replicate 288 0) ≡ places_of (48 * bits_of c) (bits_of c)
unfolding places_of filled no_places
block_copied c table part at k n et ea ek en ep =
    rw (ep, en, ek, ea, et) (ap (λ (l : List ℕ). l ++ drop (48 * bits_of c) (replicate 288 0)) (block_taken c))
