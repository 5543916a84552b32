-- `modes::train::Train::sized` answers by the ladder of refusals 11, 1, 3, 4 and 5.
-- Assumes nothing.
use mathlib.Core.Path.{◌∙◌}
use Rattle.modes.proofs.KindLaws.{encode_sized}
use Rattle.modes.proofs.train.Train.sized.Goals as goal

pub returns-clause-answer : goal.returns-clause-answer
returns-clause-answer c = c.described.ensures.answer ∙ encode_sized _
