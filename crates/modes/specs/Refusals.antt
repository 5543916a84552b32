-- Refusals 1 to 6, in the words and the order of document 01's table, 11 with these of a list of PDUs, and 12 of a BCH. A call that has no
-- counter or no a skips its test.
--   lengths           3, 4, 5: what a length is tested for
--   sized             1, 3, 4, 5: what document 01's mode and length are tested for
--   described         1 to 6: what document 01's description is tested for
--   modes_tests       1, PDU by PDU
--   list_tests        11, and 1 PDU by PDU
--   lengths_tests     3, 4 and 5, PDU by PDU
--   list_sized        11, 1, 3, 4, 5, and 3 on the sum: what a list is tested for
--   list_described    11, 1, 2, 3, 4, 5, and 3 and 6 on the sum: what a list, a counter and a are tested for
--   bch_test          12: what a BCH's list and a are tested for
--   encode_described  what encoding tests the description of a train of some kind for
--   decode_described  and decoding
-- Assumes nothing.
use Rattle.std.specs.Prelude.{ℕ, ◌-◌, ◌%◌, Bool, not, ◌||◌, List, [], ◌∷◌, ◌++◌, ltb, eqb, length, get_or}
use Rattle.laws.specs.Ladder.{Rung, ◌when◌}
use Rattle.modes.specs.declared.Kind.{Kind}
use Rattle.modes.specs.declared.Kind.TheVariants.{Data, Bch}
use Rattle.modes.specs.Modes.{info}
use Rattle.modes.specs.Pdus.{Pdu, pdu_of, length_of}
use Rattle.modes.specs.Kinds.{other_than_bch}

-- a number below the first of two or above the second
abbrev pub outside : ℕ → ℕ → ℕ → Bool
outside least most x = ltb x least || ltb most x

-- mode is not 1 to 7
abbrev pub mode_unknown : ℕ → Bool
mode_unknown k = outside 1 7 k

-- frame counter above 15
abbrev pub counter_above : ℕ → Bool
counter_above counter = ltb 15 counter

-- N below 72 or above 3,456
abbrev pub length_outside : ℕ → Bool
length_outside N = outside 72 3456 N

-- N not a multiple of 8
abbrev pub not_octets : ℕ → Bool
not_octets N = not (eqb (N % 8) 0)

-- N not a multiple of the information bits per symbol
abbrev pub not_symbols : ℕ → ℕ → Bool
not_symbols per_symbol N = not (eqb (N % per_symbol) 0)

-- a above N - 72
abbrev pub place_above : ℕ → ℕ → Bool
place_above N a = ltb (N - 72) a

-- what a length is tested for
unfoldable pub lengths : ℕ → ℕ → List Rung
lengths per_symbol N = (3 when length_outside N) ∷ (4 when not_octets N) ∷ (5 when not_symbols per_symbol N) ∷ []

-- what a mode and a length are tested for
unfoldable pub sized : ℕ → ℕ → List Rung
sized k N = (1 when mode_unknown k) ∷ lengths (info k) N

-- what a whole description is tested for
unfoldable pub described : ℕ → ℕ → ℕ → ℕ → List Rung
described k counter N a =
    (1 when mode_unknown k)
    ∷ (2 when counter_above counter)
    ∷ lengths (info k) N ++ (6 when place_above N a) ∷ []

-- list empty or above 16
abbrev pub list_outside : List Pdu → Bool
list_outside ps = outside 1 16 (length ps)

-- 1 for each PDU
unfoldable pub modes_tests : List Pdu → List Rung
modes_tests [] = []
modes_tests (p ∷ ps) = (1 when mode_unknown p.mode) ∷ modes_tests ps

-- 11, and then 1 for each PDU
unfoldable pub list_tests : List Pdu → List Rung
list_tests ps = (11 when list_outside ps) ∷ modes_tests ps

-- 3, 4 and 5 PDU by PDU, each on its own length
unfoldable pub lengths_tests : List Pdu → List Rung
lengths_tests [] = []
lengths_tests (p ∷ ps) = lengths (info p.mode) p.length ++ lengths_tests ps

-- what a list is tested for
unfoldable pub list_sized : List Pdu → List Rung
list_sized ps = list_tests ps ++ (lengths_tests ps ++ (3 when length_outside (length_of ps)) ∷ [])

-- what a list, a counter and a are tested for
unfoldable pub list_described : List Pdu → (counter a : ℕ) → List Rung
list_described ps counter a =
    list_tests ps
    ++ ((2 when counter_above counter)
    ∷ (lengths_tests ps ++ (3 when length_outside (length_of ps)) ∷ (6 when place_above (length_of ps) a) ∷ []))

-- the mode of the first PDU
abbrev pub first_mode : List Pdu → ℕ
first_mode ps = (get_or ps 0 (pdu_of 0 0)).mode

-- 12 for a BCH description with another list, N, mode or a
abbrev pub bch_test : List Pdu → (a : ℕ) → List Rung
bch_test ps a = (12 when other_than_bch (length ps) (length_of ps) (first_mode ps) a) ∷ []

-- what encoding tests a description for: of a BCH also 12, after 6
unfoldable pub encode_described : Kind → List Pdu → (counter a : ℕ) → List Rung
encode_described Data ps counter a = list_described ps counter a
encode_described Bch ps counter a = list_described ps counter a ++ bch_test ps a

-- what decoding tests it for: of a BCH the caller's counter is not read, and 2 not tested
unfoldable pub decode_described : Kind → List Pdu → (counter a : ℕ) → List Rung
decode_described Data ps counter a = list_described ps counter a
decode_described Bch ps counter a = list_sized ps ++ ((6 when place_above (length_of ps) a) ∷ bch_test ps a)
