-- `modes::refusals::tested` is the ladder of refusals 11, 1 to 6 and 12.
-- Assumes nothing.
use mathlib.Core.Path.{◌≡◌, sym}
use Rattle.std.proofs.lemmas.Result.{err_from_is_err_and}
use Rattle.laws.specs.Ladder.{ladder}
use Rattle.modes.specs.Passed.{told}
use Rattle.modes.specs.Refusals.{list_tests}
use Rattle.modes.proofs.PduLaws.{pdus_of_length}
use Rattle.modes.proofs.RefusalNumbers.{above_0}
use Rattle.modes.proofs.TestLaws.{list_count, list_modes, list_first}
use Rattle.modes.proofs.KindLaws.{encode_list, encode_rest}
use Rattle.modes.proofs.refusals.tested.Goals as goal
use Rattle.modes.proofs.refusals.tested.Goals.{In_ok-modes_tested}

-- past the tests of the list
listed : (c : In_ok-modes_tested) → ladder (list_tests (told c.args.by.now.list)) ≡ 0
listed c = sym (c.in_ok-modes_tested.ensures c.args.by.now.list.lengths)

pub returns-in_err-modes_tested : goal.returns-in_err-modes_tested
returns-in_err-modes_tested c =
    let p = err_from_is_err_and c.from_residual.result c.from_residual.ensures.1 in
    rw (p.1, p.2) (encode_list _ _ _ _ _ (c.in_err-modes_tested.ensures _) (above_0 _))

pub lengths_tested-each-requires : goal.lengths_tested-each-requires
lengths_tested-each-requires c =
    let listed = listed (goal.at.lengths_tested-each-requires c).In_ok-modes_tested in
    (list_count _ _ _ listed, list_modes _ _ _ listed)

pub total_length-sum-requires : goal.total_length-sum-requires
total_length-sum-requires c = list_count _ _ _ (listed (goal.at.total_length-sum-requires c).In_ok-modes_tested)

pub returns : goal.returns
returns c =
    let listed = listed (goal.at.returns c).In_ok-modes_tested in
    let list = c.args.by.now.list in
    let sum = c.total_length-sum.ensures list.modes in
    rw (
      ← encode_rest _ _ _ _ listed,
      pdus_of_length list.count list.modes list.lengths,
      list_first _ _ _ listed,
      ← sum,
      ← c.lengths_tested-each.ensures,
      ← c.length_outside.ensures,
      ← c.place_above-above.ensures,
      ← c.other_than-other.ensures,
    )
    c.in_order.ensures
