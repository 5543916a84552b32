-- The train that the search returns, descrambled into octets, is the one that is wanted of octets.
-- Assumes nothing.
use mathlib.Core.Path.{◌≡◌, sym, ◌∙◌, ap, subst}
use mathlib.Core.Bool.{Bool}
use mathlib.Core.List.{List}
use Prim.Native.Nat.{ℕ, ◌/◌, ◌%◌, ◌≤◌, ◌<◌}
use native.Mathlib.Omega.{arith}
use lib.ListN.{get_or, take, drop}
use lib.Seq.{get_or-take}
use Rattle.laws.specs.Lists.{tabulate, filled}
use Rattle.laws.proofs.ListLaws.{tabulate_length, tabulate_at, filled_take, filled_drop}
use Rattle.modes.specs.declared.Kind.{Kind}
use Rattle.modes.specs.Kinds.{first_scrambled}
use Rattle.modes.specs.Sizes.{octets_of}
use Rattle.coder.specs.Scrambler.{octet_at}
use Rattle.coder.specs.Train.{Train}
use Rattle.coder.proofs.OctetLaws.{octet_low}
use Rattle.trellis.specs.Wanted.{Returned, Confirmed}
use Rattle.trellis.specs.Heard.{train_cost, differing}
use Rattle.trellis.specs.Compared.{Comparisons}
use Rattle.trellis.proofs.WantedLaws.{returned_same_cost, confirmed_same}
use Rattle.search.specs.Bytes.{cost_of, heard_of}
use Rattle.search.specs.Promises.{Searched, Marked}
use Rattle.unique.specs.Sameness.{Octets}
use Rattle.modem.specs.Entering.{counter_in, entering}
use Rattle.modem.specs.Decode.{train_of, Chosen}
use Rattle.modem.proofs.EnteringLaws.{found_back}

-- a train's first bits are bits
pub first_low : (n : ℕ) (w : List ℕ) → 6 ≤ n → Train n (take n w) → (t : ℕ) → t < 4 → get_or w t 0 < 2
first_low n w long train t h = rw (get_or-take n w t 0 (omega arith)) at (train.low t (omega arith))

module _ (first own n : ℕ) (octets octets' w : List ℕ) (written : octets' ≡ filled (n / 8) (octet_at first own w) octets) where
  front : take (octets_of n) octets' ≡ tabulate (n / 8) (octet_at first own w)
  unfolding octets_of
  front = ap (take (n / 8)) written ∙ filled_take (n / 8) (octet_at first own w) octets

  behind : drop (octets_of n) octets' ≡ drop (octets_of n) octets
  unfolding octets_of
  behind = ap (drop (n / 8)) written ∙ filled_drop (n / 8) (octet_at first own w) octets

  low : Octets (octets_of n) (take (octets_of n) octets')
  unfolding octets_of
  low = rw front (record {
    count = tabulate_length (n / 8) _;
    low = λ j h. rw (tabulate_at (n / 8) (octet_at first own w) j 0 h) (octet_low first own w j);
  })

  pub pick_chosen : (kind : Kind) (counter : ℕ) (heard before words words' : List ℕ) (cost : ℕ) (confirmed : Bool) (comparisons : ℕ)
      → n % 8 ≡ 0 → 6 ≤ n → first ≡ first_scrambled kind → own ≡ counter_in kind counter (λ t. get_or w t 0)
      → Searched n heard before w words words' cost → Marked n heard (take n w) confirmed → Comparisons n comparisons
      → Chosen (train_of kind counter n) n (train_cost (cost_of heard) n) (differing (heard_of heard) n) octets words cost confirmed comparisons octets' words'
  unfolding train_of
  pick_chosen kind counter heard before words words' cost confirmed comparisons whole long at_first is s m compared =
      let train = s.returned.train in
      let e : train_of kind counter n octets' ≡ take n w =
      ap (entering kind counter n) (front ∙ ap (λ (f : ℕ). tabulate (n / 8) (octet_at f own w)) at_first)
      ∙ found_back kind counter own n w whole (omega arith) train (first_low n w long train) is
      in
      record {
        returned = subst (Returned n (train_cost (cost_of heard) n)) (sym e) s.returned;
        costs = s.costs ∙ ap (train_cost (cost_of heard) n) (sym e);
        only_then = λ t. subst (Confirmed n (train_cost (cost_of heard) n) (differing (heard_of heard) n)) (sym e) (m.only_then t);
        always_then = λ t. m.always_then (subst (Confirmed n (train_cost (cost_of heard) n) (differing (heard_of heard) n)) e t);
        compared = compared;
        octets_low = low;
        kept = behind;
        zeroed = s.zeroed;
      }

-- what is chosen depends on the costs and the counts alone
pub chosen_same : (stands : List ℕ → List ℕ) (N : ℕ) (cost cost' : List ℕ → ℕ) (count count' : List ℕ → List ℕ → ℕ) (octets words octets' words' : List ℕ)
    (c : ℕ) (confirmed : Bool) (comparisons : ℕ)
    → ((v : List ℕ) → cost v ≡ cost' v) → ((w v : List ℕ) → count w v ≡ count' w v)
    → Chosen stands N cost count octets words c confirmed comparisons octets' words'
    → Chosen stands N cost' count' octets words c confirmed comparisons octets' words'
chosen_same stands N cost cost' count count' octets words octets' words' c confirmed comparisons same_cost same_count h =
    let w : List ℕ = stands octets' in
    let train = h.returned.train in
    record {
      returned = returned_same_cost (λ v _. same_cost v) h.returned;
      costs = h.costs ∙ same_cost w;
      only_then = λ t. confirmed_same N cost cost' count count' w train (λ v _. same_cost v) (λ v _. same_count w v) (h.only_then t);
      always_then = λ t. h.always_then
          (confirmed_same N cost' cost count' count w train (λ v _. sym (same_cost v)) (λ v _. sym (same_count w v)) t);
      compared = h.compared;
      octets_low = h.octets_low;
      kept = h.kept;
      zeroed = h.zeroed;
    }
