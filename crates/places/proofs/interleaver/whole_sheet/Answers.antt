-- `places::interleaver::whole_sheet` is the sheet that the rule of clause 5.4 makes: antt computes the rule at every entry.
-- Assumes nothing.
use mathlib.Core.Path.{refl}
use Rattle.laws.proofs.Tables.{tabled}
use Rattle.places.specs.Interleaver.{unit, first_step, second_step, place_in_symbol, entry_of, sheet}
use Rattle.places.proofs.interleaver.whole_sheet.Goals as goal

pub returns : goal.returns
unfolding unit first_step second_step place_in_symbol entry_of sheet
returns c = tabled sheet _ refl
