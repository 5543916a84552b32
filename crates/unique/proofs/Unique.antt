-- No two different trains of one description have the same sent bits.
-- Assumes nothing.
use mathlib.Core.Path.{◌≡◌, refl, sym, ◌∙◌}
use mathlib.Core.Bool.{Bool, true, false}
use mathlib.Core.List.{List}
use Prim.Native.Nat.{ℕ, zero, suc, ◌+◌, ◌*◌, ◌%◌, ◌≤◌, ◌<◌}
use native.Mathlib.Nat.{not-suc-le-zero}
use native.Mathlib.Omega.{arith}
use lib.Dec.{ltb}
use lib.ListN.{get_or}
use lib.Seq.{ext_get_or}
use borrow.Author.Tests.{ltb-true, ltb-false}
use Rattle.modes.specs.Modes.{info}
use Rattle.modes.specs.Sizes.{sent_bits, octets_of}
use Rattle.coder.specs.Scrambler.{scrambled}
use Rattle.coder.specs.Encoder.{tailed, coded}
use Rattle.coder.specs.Train.{Train}
use Rattle.coder.proofs.ScramblerLaws.{from_the_first}
use Rattle.coder.proofs.TrainLaws.{tailed_before, tailed_bits, scrambled_train}
use Rattle.places.specs.Selection.{Selection}
use Rattle.modes.specs.Pdus.{Pdu, length_of, sent_of}
use Rattle.modes.specs.Description.{EachFit}
use Rattle.places.specs.Trains.{pdu, train, pdus, listed}
use Rattle.places.proofs.SelectionLaws.{Takes, place_origin}
use Rattle.places.proofs.TrainLaws.{takes_train, takes_listed}
use Rattle.unique.specs.Sameness.{Octets, SameSent}
use Rattle.unique.proofs.KeptLaws.{Sent}
use Rattle.unique.proofs.WindowLaws.{windowed_pdu, windowed_pdus}
use Rattle.unique.proofs.LocalLaws.{Shown, by_x, by_y, by_next, step_shown}
use Rattle.unique.proofs.EncodedLaws.{Alike, x_tells, y_tells, next_tells}
use Rattle.unique.proofs.OctetLaws.{octets_back}

-- two trains of N bits with the same sent bits, through a selection that shows every step
module _ (f : Selection) (N n : ℕ) (takes : Takes f (2 * (N + 6)) n) (shown : (d : ℕ) → Shown f d)
    (u v : List ℕ) (ubits : Train N u) (vbits : Train N v) (same : SameSent f n u v) where
  same_coded : (m : ℕ) → m < 2 * (N + 6) → Sent f m → coded (tailed u) m ≡ coded (tailed v) m
  same_coded m h s =
      let (out, back) = place_origin f takes m s.at h s.there in
      rw back at (same s.at out)

  same_at : (d : ℕ) → d < N → Alike (tailed u) (tailed v) d → Shown f d → get_or (tailed u) d 0 ≡ get_or (tailed v) d 0
  same_at d h alike (by_x x) =
      x_tells (tailed u) (tailed v) (tailed_bits ubits) (tailed_bits vbits) d alike d (omega arith) (same_coded (2 * d) (omega arith) x)
  same_at d h alike (by_y y) =
      y_tells (tailed u) (tailed v) (tailed_bits ubits) (tailed_bits vbits) d alike (same_coded (2 * d + 1) (omega arith) y)
  same_at d h alike (by_next x y) =
      next_tells (tailed u) (tailed v) (tailed_bits ubits) (tailed_bits vbits) d alike
      (same_coded (2 * d + 2) (omega arith) x) (same_coded (2 * d + 3) (omega arith) y)

  all_alike : (d : ℕ) → d ≤ N → Alike (tailed u) (tailed v) d
  all_alike zero h t l = absurd (not-suc-le-zero l)
  all_alike (suc d) h t l = go (all_alike d (omega arith)) (ltb t d) refl
    where
      go : Alike (tailed u) (tailed v) d → (x : Bool) → ltb t d ≡ x → get_or (tailed u) t 0 ≡ get_or (tailed v) t 0
      go before true e = before t (ltb-true t d e)
      go before false e =
          let last : t ≡ d = omega (arith, ltb-false t d e) in
          rw last (same_at d h before (shown d))

  shown_unique : u ≡ v
  shown_unique =
      ext_get_or 0 u v (ubits.count ∙ sym vbits.count)
      (λ t h. sym (tailed_before u t h)
      ∙ all_alike N (omega arith) t (omega (arith, ubits.count))
      ∙ tailed_before v t (omega (arith, ubits.count, vbits.count)))

-- two trains of one list of PDUs
pub listed_unique : (ps : List Pdu) (a : ℕ) → EachFit ps → a + 72 ≤ length_of ps
    → (u v : List ℕ) → Train (length_of ps) u → Train (length_of ps) v
    → SameSent (listed ps a) (sent_of ps) u v → u ≡ v
unfolding listed
listed_unique ps a fit fits =
    shown_unique (listed ps a) (length_of ps) (sent_of ps) (takes_listed ps a fit fits) (step_shown a (pdus ps) (windowed_pdus ps fit))

-- two of document 01's trains
pub train_unique : (k N a : ℕ) → 1 ≤ k → k ≤ 7 → N % info k ≡ 0 → a + 72 ≤ N
    → (u v : List ℕ) → Train N u → Train N v
    → SameSent (train k a) (sent_bits k N) u v → u ≡ v
unfolding train
train_unique k N a low high whole fits =
    shown_unique (train k a) N (sent_bits k N) (takes_train k N a low high whole fits) (step_shown a (pdu k) (windowed_pdu k low high))

-- and from sent bits back to octets
pub train_octets_unique : (k N a counter : ℕ) → 1 ≤ k → k ≤ 7 → N % info k ≡ 0 → a + 72 ≤ N → N % 8 ≡ 0
    → (s r : List ℕ) → Octets (octets_of N) s → Octets (octets_of N) r
    → SameSent (train k a) (sent_bits k N) (scrambled counter N s) (scrambled counter N r) → s ≡ r
train_octets_unique k N a counter low high symbols fits octets s r hs hr same =
    octets_back 0 counter N octets s r hs hr
    (train_unique k N a low high symbols fits _ _ (scrambled_train 0 counter N s) (scrambled_train 0 counter N r)
    (rw (from_the_first counter N s, from_the_first counter N r) same))
