-- The cases that document 01 marks * hold, by computation.
-- Assumes nothing.
use mathlib.Core.Path.{refl}
use Rattle.laws.specs.Lists.{tabulate}
use Rattle.modes.specs.Modes.{bits, bits_in, sent, sent_in, row_of, table1, no_mode}
use Rattle.places.specs.Interleaver.{unit, first_step, second_step, place_in_symbol}
use Rattle.coder.specs.Scrambler.{state, scrambled_bit, scrambled}
use Rattle.coder.specs.Encoder.{tail, tailed, lags_x, lags_y, lag, tapped, coded}
use Rattle.points.specs.Levels.{one, two, three, table, width_q, width_i}
use Rattle.points.specs.Points.{reading}
use Rattle.soft.specs.Soft.{held, squared, bit_at, distances, least, least_to, s_of, rounded, soft_byte}
use Rattle.starred.specs.Cases.{place_in, soft_on_i, cases, Hold}

pub starred : Hold cases
unfolding Hold cases place_in place_in_symbol unit first_step second_step bits bits_in sent sent_in row_of table1 no_mode tabulate state scrambled_bit scrambled tail tailed lags_x lags_y lag tapped coded soft_on_i soft_byte rounded s_of least_to least distances bit_at squared held reading width_i width_q table one two three
starred = (refl, (refl, (refl, (refl, (refl, (refl, (refl, (refl, tt))))))))
