-- The spread of the path costs, which puts their stored numbers in order: one law over the bound, for the search and for the mark.
-- Assumes nothing.
use Rattle.std.proofs.Common.{◌≡◌, ℕ, ◌+◌, ◌*◌, ◌<◌, ◌≤◌, List, get_or, sym, ap, ◌∙◌, arith}
use Rattle.trellis.specs.Passes.{best}
use Rattle.trellis.proofs.PartialLaws.{Attained, leads_low, reached_least, reached_attained, spread_reached}
use Rattle.search.specs.Stored.{half, start, wrapped, Near, Stored}
use Rattle.search.specs.Spread.{SoftBytes, search_spread, mark_spread, Least, InOrder}
use Rattle.search.proofs.ByteLaws.{cost_soft}
use Rattle.search.proofs.TurnLaws.{top_tells}
use Rattle.search.proofs.ForwardLaws.{first, first_within, Forward}
use Rattle.search.proofs.MarkLaws.{second, second_within, Marking}

module _ (b : ℕ → ℕ → ℕ) (M : ℕ) (most : (t r : ℕ) → b t r ≤ M) (far : 6 * M < start) where
  -- the least cost of a reached state is its best
  least_best : (N t s c : ℕ) → Least b N t s c → c ≡ best b start t s
  least_best N t s c l = go (reached_attained b start M most far l.leads)
    where
      go : Attained b N t s (best b start t s) → c ≡ best b start t s
      go a = omega (arith, l.cost, reached_least b start l.leads, a.cost, l.least a.inputs a.leads)

  -- a spread below the bound puts the stored numbers in order
  in_order : (bound N t : ℕ) (costs : List ℕ) → 6 * M < bound → bound + M ≤ half → Stored (λ s. wrapped (best b start t s)) costs
      → InOrder b M bound N t costs
  in_order bound N t costs low room held = record {
    stored = stored;
    apart = apart;
    told = λ s s' c c' x x' l l' hx hx'. top_tells (c + x) (c' + x') _ _ (near s s' c c' x x' l l' hx hx');
  }
    where
      stored : (s c : ℕ) → Least b N t s c → get_or costs s 0 ≡ wrapped c
      stored s c l = held.at s (leads_low l.leads) ∙ ap wrapped (sym (least_best N t s c l))

      apart : (s s' c c' : ℕ) → Least b N t s c → Least b N t s' c' → c < c' + bound
      apart s s' c c' l l' =
          omega (arith, least_best N t s c l, least_best N t s' c' l', spread_reached b start M most l.leads l'.leads)

      near : (s s' c c' x x' : ℕ) → Least b N t s c → Least b N t s' c' → x ≤ M → x' ≤ M
          → Near (c + x) (c' + x') (wrapped (get_or costs s 0 + x)) (wrapped (get_or costs s' 0 + x'))
      near s s' c c' x x' l l' hx hx' = record {
        stored_a = omega (arith, stored s c l);
        stored_b = omega (arith, stored s' c' l');
        not_below = omega (arith, apart s s' c c' l l');
        not_above = omega (arith, apart s' s c' c l' l);
      }

module _ (heard : List ℕ) (soft : SoftBytes heard) where
  -- in the search, after each of its steps
  pub search_in_order : (n : ℕ) (words₀ words costs : List ℕ) (total t : ℕ) → Forward n heard words₀ words costs total t
      → InOrder (first heard) 160 search_spread n t costs
  search_in_order n words₀ words costs total t f =
      in_order (first heard) 160 (first_within heard 80 (cost_soft heard soft)) (omega arith) search_spread n t costs (omega arith) (omega arith) f.held

  -- in the mark's pass, after each of its steps
  pub mark_in_order : (n : ℕ) (w costs : List ℕ) (r t : ℕ) → Marking n heard w costs r t
      → InOrder (second heard w) 322 mark_spread n t costs
  mark_in_order n w costs r t m =
      in_order (second heard w) 322 (second_within heard w 80 (cost_soft heard soft)) (omega arith) mark_spread n t costs (omega arith) (omega arith) m.held
