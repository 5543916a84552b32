-- Ideal readings, and the transmitter's points in f32.
--   reading           256 times the level
--   ideal_i, ideal_q  a carrier's ideal readings of the sent bits
--   Room, Ideal       what `readings` asks of the lent slices, and what it leaves in them
--   k_of              1 for BPSK, else the f32 nearest to 1/sqrt(2), 1/sqrt(10), 1/sqrt(42)
--   part              the level times K by one f32 multiplication
--   Nearest           that K is m / 2^e and nearest to 1/sqrt(D), in whole numbers
-- Assumes nothing.
use Rattle.std.specs.Prelude.{◌≡◌, false, List, ℕ, ◌+◌, ◌-◌, ◌*◌, ◌^◌, ◌<◌, ◌≤◌, ℤ, pos, negsuc, ◌*ℤ◌, Float, length}
use Rattle.std.specs.Float.{fin, binary32}
use Rattle.std.specs.Float.Ieee.{of_bits, of_int, mul}
use Rattle.laws.specs.Lists.{filled}
use Rattle.modes.specs.declared.Constellation.{Constellation}
use Rattle.modes.specs.declared.Constellation.TheVariants.{Bpsk, Qpsk, Qam16, Qam64}
use Rattle.modes.specs.Modes.{bits_of}
use Rattle.points.specs.Levels.{level_i, level_q, group}

-- an ideal reading is 256 times the level
unfoldable pub reading : ℤ → ℤ
reading l = pos 256 *ℤ l

-- carrier k's ideal reading on I
unfoldable pub ideal_i : Constellation → List ℕ → ℕ → ℤ
ideal_i c sent k = reading (level_i c (group (bits_of c) sent k))

-- carrier k's ideal reading on Q
unfoldable pub ideal_q : Constellation → List ℕ → ℕ → ℤ
ideal_q c sent k = reading (level_q c (group (bits_of c) sent k))

-- the bits of so many carriers were sent, and i and q have room for their readings
pub record Room (c : Constellation) (carriers : ℕ) (sent : List ℕ) (i q : List ℤ) : Type 0 where
  pub enough : bits_of c * carriers ≤ length sent
  pub on_i : carriers ≤ length i
  pub on_q : carriers ≤ length q

-- i became i' and q became q': the ideal readings of so many carriers, and the rest as it was
pub record Ideal (c : Constellation) (carriers : ℕ) (sent : List ℕ) (i q i' q' : List ℤ) : Type 0 where
  pub on_i : i' ≡ filled carriers (ideal_i c sent) i
  pub on_q : q' ≡ filled carriers (ideal_q c sent) q

-- 1 for BPSK, else the f32 nearest to 1/sqrt(2), 1/sqrt(10), 1/sqrt(42)
abbrev pub k_of : Constellation → Float
k_of Bpsk = of_bits binary32 0x3F800000
k_of Qpsk = of_bits binary32 0x3F3504F3
k_of Qam16 = of_bits binary32 0x3EA1E89B
k_of Qam64 = of_bits binary32 0x3E1E01B3

-- the level times K by one f32 multiplication
unfoldable pub part : Constellation → ℤ → Float
part c l = mul binary32 (of_int binary32 l) (k_of c)

-- K is m / 2^e; m has 24 bits and so have m - 1 and m + 1, so that these make the neighbours of K among the f32;
-- and 1/sqrt(D) lies between the middles to both
pub record Nearest (c : Constellation) (D m e : ℕ) : Type 0 where
  pub exact : k_of c ≡ fin false m (negsuc (e - 1))
  pub normal : (2 ^ 23 < m) × (m < 2 ^ 24 - 1)
  pub above : (2 * m - 1) ^ 2 * D < 4 * 2 ^ (2 * e)
  pub below : 4 * 2 ^ (2 * e) < (2 * m + 1) ^ 2 * D
