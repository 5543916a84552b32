-- `search::words::word_of` joins sixteen bytes of choices (WordLaws).
-- Assumes nothing.
use Rattle.std.proofs.Common.{ℕ, ◌+◌, ◌*◌, ◌∙◌, ap₂}
use Rattle.search.proofs.WordLaws.{word_packed}
use Rattle.search.proofs.words.word_of.Goals as goal

pub returns : goal.returns
returns c = λ f chosen. ap₂ (λ (x y : ℕ). x + 2 * y) c.eight.ensures c.eight-2.ensures ∙ word_packed f _ chosen
