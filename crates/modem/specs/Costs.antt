-- What a scrambled train w of a list of PDUs costs: the sum over its n sent bits, all of which count as heard.
--   rounded_cost  by the soft bytes
--   exact_cost    by S of the readings of I and Q
--   differing     the number of sent bits in which two trains differ
-- Assumes nothing.
use Rattle.std.specs.Prelude.{ℕ, List, ℤ, pos, get_or}
use Rattle.modes.specs.Pdus.{Pdu, sent_of}
use Rattle.places.specs.Trains.{listed}
use Rattle.modem.specs.Sent.{cost_by, differing_by}
use Rattle.modem.specs.Soften.{list_exact}

-- by the soft bytes
unfoldable pub rounded_cost : List Pdu → (a : ℕ) → List ℤ → List ℕ → ℕ
rounded_cost ps a soft = cost_by (listed ps a) (sent_of ps) (λ q. get_or soft q (pos 0))

-- by S of the readings
unfoldable pub exact_cost : List Pdu → (a : ℕ) → (i q : List ℤ) → List ℕ → ℕ
exact_cost ps a i q = cost_by (listed ps a) (sent_of ps) (list_exact ps i q)

-- the number of sent bits in which two trains differ
unfoldable pub differing : List Pdu → (a : ℕ) → (w v : List ℕ) → ℕ
differing ps a = differing_by (listed ps a) (sent_of ps)
