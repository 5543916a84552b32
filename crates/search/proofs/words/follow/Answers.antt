-- `search::words::follow` goes back from state 0, one word a turn (FollowLaws).
-- Assumes nothing.
use Rattle.std.proofs.Common.{arith}
use Rattle.search.proofs.FollowLaws.{following_again, train_found, words_zeroed}
use Rattle.search.proofs.words.follow.Goals as goal

pub loop-t-preserved : goal.loop-t-preserved
loop-t-preserved c =
    following_again _ _ _ (omega arith) (omega arith) _ _ _ _ _ _
    c.loop-t.invariant
    c.loop-t-test.true
    c.bit_of-bit.ensures.0
    c.put_input.ensures

pub returns : goal.returns
returns c =
    let inv = c.loop-t.invariant in
    let end = c.loop-t-test.false in record { found = train_found _ _ _ (omega arith) (omega arith) _ _ _ _ inv end; zeroed = words_zeroed _ _ _ (omega arith) (omega arith) _ _ _ _ inv end }
