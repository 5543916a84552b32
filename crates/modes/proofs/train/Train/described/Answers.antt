-- `modes::train::Train::described` makes the train of a description that passes.
-- Assumes nothing.
use mathlib.Core.Path.{sym}
use Rattle.modes.proofs.KindLaws.{encode_legal}
use Rattle.modes.proofs.train.Train.described.Goals as goal

pub of-requires : goal.of-requires
of-requires c = (encode_legal c.args.by.now.kind _ _ _ (sym c.in_ok-tested.ensures)).fit
