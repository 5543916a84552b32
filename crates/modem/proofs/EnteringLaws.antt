-- Trains as they enter the encoder, by their kind: which counter their scrambler starts from, and that they and their octets fix each other.
-- Assumes nothing.
use mathlib.Core.Path.{◌≡◌, refl, sym, ◌∙◌, ap}
use mathlib.Core.List.{List}
use Prim.Native.Nat.{ℕ, ◌+◌, ◌/◌, ◌%◌, ◌≤◌, ◌<◌}
use native.Mathlib.Omega.{arith}
use lib.Dec.{lit≤}
use lib.ListN.{get_or, take}
use borrow.Author.Tests.{eqb-true, not-false}
use mathlib.Core.Bool.{false}
use Rattle.laws.specs.Lists.{tabulate}
use Rattle.laws.proofs.ListLaws.{tabulate_at}
use Rattle.modes.specs.declared.Kind.{Kind}
use Rattle.modes.specs.declared.Kind.TheVariants.{Data, Bch}
use Rattle.modes.specs.Kinds.{first_scrambled, heeded}
use Rattle.modes.specs.Sizes.{octets_of}
use Rattle.modes.specs.Pdus.{Pdu, length_of, sent_of}
use Rattle.modes.specs.Description.{EachFit}
use Rattle.places.specs.Trains.{listed}
use Rattle.coder.specs.Scrambler.{bit_of, masked_bit, scrambled_from, octet_at, frame_counter}
use Rattle.coder.specs.Train.{Train}
use Rattle.coder.proofs.ScramblerLaws.{plain_bit, masked_behind}
use Rattle.coder.proofs.TrainLaws.{scrambled_train}
use Rattle.coder.proofs.OctetLaws.{scrambled_back}
use Rattle.coder.proofs.FrameLaws.{counter_entering, counter_back}
use Rattle.unique.specs.Sameness.{Octets, SameSent}
use Rattle.unique.proofs.OctetLaws.{octets_back}
use Rattle.unique.proofs.Unique.{listed_unique}
use Rattle.modem.specs.Entering.{counter_in, entering, counter_other}
use Rattle.modem.specs.Decode.{train_of}
use Rattle.modem.specs.Demands.{EntersAs}

-- where the first bits are not another counter, it is the given one
pub own_counter : (kind : Kind) (counter : ℕ) (octets : List ℕ) → counter_other kind counter octets ≡ false → counter_in kind counter (bit_of octets) ≡ counter
own_counter Data counter octets same = refl
own_counter Bch counter octets same = eqb-true _ _ (not-false _ same)

-- four bits at most go unscrambled
pub first_few : (kind : Kind) → first_scrambled kind ≤ 4
first_few Data = lit≤ tt
first_few Bch = lit≤ tt

pub entering_train : (kind : Kind) (counter N : ℕ) (octets : List ℕ) → Train N (entering kind counter N octets)
unfolding entering
entering_train kind counter N octets = scrambled_train (first_scrambled kind) (counter_in kind counter (bit_of octets)) N octets

-- a BCH whose first four bits are the counter, bit by bit
pub bch_enters : (counter : ℕ) (octets : List ℕ) → counter_in Bch counter (bit_of octets) ≡ counter → EntersAs counter octets (entering Bch counter 120 octets)
unfolding entering scrambled_from
bch_enters counter octets own = rw own (record {
  counter_is = sym own;
  unscrambled = λ t h. tabulate_at 120 (masked_bit 4 counter octets) t 0 (omega arith) ∙ plain_bit 4 counter octets t h;
  from_fifth = λ t h. tabulate_at 120 (masked_bit 4 counter octets) (4 + t) 0 (omega arith) ∙ masked_behind 4 counter octets t;
})

-- the counter that is not heeded is not read
pub heeded_train : (kind : Kind) (counter N : ℕ) → train_of kind (heeded kind counter) N ≡ train_of kind counter N
unfolding train_of entering
heeded_train Data counter N = refl
heeded_train Bch counter N = refl

-- octets that enter as the same train are the same
pub entering_back : (kind : Kind) (counter N : ℕ) → N % 8 ≡ 0 → 4 ≤ N → (s r : List ℕ) → Octets (octets_of N) s → Octets (octets_of N) r
    → entering kind counter N s ≡ entering kind counter N r → s ≡ r
unfolding entering
entering_back Data counter N whole long s r hs hr e = octets_back 0 counter N whole s r hs hr e
entering_back Bch counter N whole long s r hs hr e =
    let own : frame_counter (bit_of s) ≡ frame_counter (bit_of r) =
    sym (counter_entering 4 _ N s (lit≤ tt) long)
    ∙ ap (λ (w : List ℕ). frame_counter (λ t. get_or w t 0)) e
    ∙ counter_entering 4 _ N r (lit≤ tt) long
    in
    octets_back 4 (frame_counter (bit_of r)) N whole s r hs hr (rw own at e)

-- the octets of a train that was found enter as that train
pub found_back : (kind : Kind) (counter own N : ℕ) (w : List ℕ) → N % 8 ≡ 0 → 4 ≤ N → Train N (take N w) → ((t : ℕ) → t < 4 → get_or w t 0 < 2)
    → own ≡ counter_in kind counter (λ t. get_or w t 0)
    → entering kind counter N (tabulate (N / 8) (octet_at (first_scrambled kind) own w)) ≡ take N w
unfolding entering
found_back Data counter own N w whole long train low is = rw (← is) (scrambled_back 0 own N w whole train)
found_back Bch counter own N w whole long train low is =
    let back : frame_counter (bit_of (tabulate (N / 8) (octet_at 4 own w))) ≡ own = counter_back 4 own (N / 8) w (lit≤ tt) (omega arith) low ∙ sym is in
    ap (λ (c : ℕ). scrambled_from 4 c N (tabulate (N / 8) (octet_at 4 own w))) back ∙ scrambled_back 4 own N w whole train

-- no two different octets of one description have the same sent bits
pub entering_unique : (kind : Kind) (ps : List Pdu) (counter a : ℕ) → EachFit ps → a + 72 ≤ length_of ps → length_of ps % 8 ≡ 0
    → (s r : List ℕ) → Octets (octets_of (length_of ps)) s → Octets (octets_of (length_of ps)) r
    → SameSent (listed ps a) (sent_of ps) (entering kind counter (length_of ps) s) (entering kind counter (length_of ps) r) → s ≡ r
entering_unique kind ps counter a fit fits whole s r hs hr same =
    let N : ℕ = length_of ps in
    entering_back kind counter N whole (omega arith) s r hs hr
    (listed_unique ps a fit fits _ _ (entering_train kind counter N s) (entering_train kind counter N r) same)
