-- `mapped` test by test: which answer each test gives, and the point with it.
-- Assumes nothing.
use mathlib.Core.Path.{◌≡◌, refl, sym, ◌∙◌, ap}
use mathlib.Core.List.{[], ◌∷◌}
use lib.Dec.{leb}
use Prim.Native.Nat.{ℕ, ◌*◌, ◌%◌, ◌^◌, ◌≤◌, ◌<◌}
use lib.Ieee.{Float}
use borrow.Author.Tests.{le-ltb, le-leb, lt-leb}
use Rattle.laws.specs.Ladder.{◌when◌, ladder}
use Rattle.laws.proofs.LadderLaws.{ladder_passed, ladder_stops}
use Rattle.modes.specs.declared.Constellation.{Constellation}
use Rattle.modes.specs.declared.Constellation.TheVariants.{Bpsk, Qpsk, Qam16, Qam64}
use Rattle.modes.specs.Modes.{constellation_of, bits, bits_of}
use Rattle.modes.specs.Refusals.{mode_unknown}
use Rattle.modes.proofs.ModeLaws.{columns}
use Rattle.modes.proofs.RefusalLaws.{within}
use Rattle.points.specs.Levels.{level_i, level_q}
use Rattle.points.specs.Points.{part}
use Rattle.modem.specs.Point.{plus_zero, mapped_refusal, MapsTo}

-- the groups of a carrier, as the code counts them
groups : (c : Constellation) → 1 * 2 ^ bits_of c % 2 ^ 32 ≡ 2 ^ bits_of c
groups Bpsk = refl
groups Qpsk = refl
groups Qam16 = refl
groups Qam64 = refl

pub groups_of : (mode b : ℕ) (c : Constellation) → 1 ≤ mode → mode ≤ 7 → c ≡ constellation_of mode → b ≡ bits_of c → 1 * 2 ^ b % 2 ^ 32 ≡ 2 ^ bits mode
groups_of mode b c low high ec eb =
    rw (eb, groups c, ec, (columns mode low high).0) refl

-- a refused call's answer
pub refused_as : (mode group k r : ℕ) (i q : Float) → mapped_refusal mode group ≡ k → (k ≡ 0 → ⊥)
    → (r ≡ k) × (i ≡ plus_zero) × (q ≡ plus_zero) → MapsTo mode group r i q
unfolding MapsTo
refused_as mode group k r i q e h (er, ei, eq) =
    record { answer = er ∙ sym e; done = λ z. absurd (h (sym er ∙ z)); refused = λ _ t. (ei t, eq t) }

-- a number that is no mode's is refused first
pub refusal_mode : (mode group r : ℕ) → r ≡ ladder ((1 when mode_unknown mode) ∷ []) → (r ≡ 0 → ⊥) → mapped_refusal mode group ≡ r
unfolding mapped_refusal
refusal_mode mode group r e h =
    ladder_stops ((1 when mode_unknown mode) ∷ []) ((9 when leb (2 ^ bits mode) group) ∷ []) (λ z. h (e ∙ z)) ∙ sym e

-- and where it is not refused it is a mode's
pub mode_known : (mode : ℕ) → 0 ≡ ladder ((1 when mode_unknown mode) ∷ []) → (1 ≤ mode) × (mode ≤ 7)
mode_known mode e = within 1 7 mode (ladder_passed 0 _ [] (sym e)).0

pub refusal_9 : (mode group : ℕ) → 1 ≤ mode → mode ≤ 7 → 2 ^ bits mode ≤ group → mapped_refusal mode group ≡ 9
unfolding mapped_refusal ladder
refusal_9 mode group low high h = simp (le-ltb _ _ low, le-ltb _ _ high, le-leb _ _ h)

pub mapped_done : (mode group : ℕ) (c : Constellation) (i q : Float) → 1 ≤ mode → mode ≤ 7 → group < 2 ^ bits mode → c ≡ constellation_of mode
    → (i ≡ part c (level_i c group)) × (q ≡ part c (level_q c group)) → MapsTo mode group 0 i q
unfolding MapsTo mapped_refusal ladder
mapped_done mode group c i q low high h ec (ei, eq) =
    record {
      answer = simp (le-ltb _ _ low, le-ltb _ _ high, lt-leb _ _ h);
      done = λ _ t. (
        (ei ∙ ap (λ (k : Constellation). part k (level_i k group)) ec) t,
        (eq ∙ ap (λ (k : Constellation). part k (level_q k group)) ec) t,
      );
      refused = λ z. absurd (z refl);
    }
