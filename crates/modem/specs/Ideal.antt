-- What `ideal` promises.
--   ideal_by        a carrier's ideal reading: by its PDU's constellation, from its PDU's sent bits
--   list_i, list_q  the ideal readings of carrier k
--   ideal_refusal   its refusals: 11, 1, 3, 4, 5, 7, 8, 9
--   Ideal           its answer, and what it leaves in the two lent buffers
-- Assumes nothing.
use Rattle.std.specs.Prelude.{ℕ, not, ◌||◌, List, [], ◌∷◌, ltb, eqb, ℤ, length, drop}
use Rattle.laws.specs.Ladder.{given, ladder}
use Rattle.laws.specs.Lists.{filled}
use Rattle.laws.specs.Answers.{Answers}
use Rattle.modes.specs.declared.Constellation.{Constellation}
use Rattle.modes.specs.Modes.{constellation_of}
use Rattle.modes.specs.Pdus.{Pdu, Share, share_of, pdu_carriers, carriers_of, sent_of}
use Rattle.modes.specs.Refusals.{list_sized}
use Rattle.points.specs.Levels.{all_bits}
use Rattle.points.specs.Points.{ideal_i, ideal_q}
use Rattle.modem.specs.Lent.{lent}

-- a carrier's ideal reading: by its PDU's constellation, from its PDU's sent bits
unfoldable pub ideal_by : (Constellation → List ℕ → ℕ → ℤ) → List ℕ → Share → ℤ
ideal_by ideal sent s = ideal (constellation_of s.pdu.mode) (drop (sent_of s.before) sent) s.at

-- carrier k's ideal reading on I
unfoldable pub list_i : List Pdu → List ℕ → ℕ → ℤ
list_i ps sent k = ideal_by ideal_i sent (share_of pdu_carriers [] ps k)

-- carrier k's ideal reading on Q
unfoldable pub list_q : List Pdu → List ℕ → ℕ → ℤ
list_q ps sent k = ideal_by ideal_q sent (share_of pdu_carriers [] ps k)

-- refusals 11, 1, 3, 4 and 5, then 7 for the sent bits, 8 for the room on I and on Q, and 9 for a byte that is no bit
unfoldable pub ideal_refusal : List Pdu → (sent : List ℕ) → (i q : List ℤ) → ℕ
ideal_refusal ps sent i q =
    ladder
    (given (ladder (list_sized ps))
    ∷ lent 9 (not (eqb (length sent) (sent_of ps))) (ltb (length i) (carriers_of ps) || ltb (length q) (carriers_of ps)) (not (all_bits sent)))

-- the answer r, and the buffers: on success 48 x symbols readings of I and of Q and the rest as it was, on a refusal all as it was
unfoldable pub Ideal : List Pdu → (sent : List ℕ) → (i q : List ℤ) → (r : ℕ) → (i' q' : List ℤ) → Type 0
Ideal ps sent i q r i' q' =
    Answers {B = List ℤ × List ℤ} (ideal_refusal ps sent i q)
    (filled (carriers_of ps) (list_i ps sent) i, filled (carriers_of ps) (list_q ps sent) q) (i, q)
    r (i', q')
