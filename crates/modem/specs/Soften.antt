-- What `soften` promises.
--   exact_by        S of a sent bit: by its PDU's constellation, from its PDU's readings
--   list_exact      S of sent bit p
--   list_soft       the soft byte of sent bit p
--   softened        the n soft bytes of readings
--   soften_refusal  its refusals: 11, 1, 3, 4, 5, 7, 8
--   Soften          its answer, and what it leaves in the lent buffer
-- Assumes nothing.
use Rattle.std.specs.Prelude.{ℕ, false, List, [], ◌∷◌, ltb, ℤ, length, drop}
use Rattle.laws.specs.Ladder.{given, ladder}
use Rattle.laws.specs.Lists.{tabulate, filled}
use Rattle.laws.specs.Answers.{Answers}
use Rattle.modes.specs.Modes.{constellation_of}
use Rattle.modes.specs.Pdus.{Pdu, Share, share_of, pdu_sent, carriers_of, sent_of}
use Rattle.modes.specs.Refusals.{list_sized}
use Rattle.soft.specs.Soft.{rounded}
use Rattle.soft.specs.Carriers.{exact_at}
use Rattle.modem.specs.Lent.{lent, readings_wrong}

-- S of a sent bit: by its PDU's constellation, from its PDU's readings
unfoldable pub exact_by : (i q : List ℤ) → Share → ℤ
exact_by i q s = exact_at (constellation_of s.pdu.mode) (drop (carriers_of s.before) i) (drop (carriers_of s.before) q) s.at

-- S of sent bit p
unfoldable pub list_exact : List Pdu → (i q : List ℤ) → ℕ → ℤ
list_exact ps i q p = exact_by i q (share_of pdu_sent [] ps p)

-- the soft byte of sent bit p
unfoldable pub list_soft : List Pdu → (i q : List ℤ) → ℕ → ℤ
list_soft ps i q p = rounded (list_exact ps i q p)

-- the n soft bytes of readings
unfoldable pub softened : List Pdu → (i q : List ℤ) → List ℤ
softened ps i q = tabulate (sent_of ps) (list_soft ps i q)

-- refusals 11, 1, 3, 4 and 5, then 7 for the readings of I and of Q and 8 for the room for soft bytes
unfoldable pub soften_refusal : List Pdu → (i q soft : List ℤ) → ℕ
soften_refusal ps i q soft =
    ladder (given (ladder (list_sized ps)) ∷ lent 9 (readings_wrong (carriers_of ps) i q) (ltb (length soft) (sent_of ps)) false)

-- the answer r, and the buffer: on success the n soft bytes and the rest as it was, on a refusal all as it was
unfoldable pub Soften : List Pdu → (i q soft : List ℤ) → (r : ℕ) → (soft' : List ℤ) → Type 0
Soften ps i q soft = Answers (soften_refusal ps i q soft) (filled (sent_of ps) (list_soft ps i q) soft) soft
