-- `record::Record::of` reads the fields.
-- Assumes nothing.
use Rattle.record.specs.Record.{mode_of, counter_of, length_of, place_of}
use Rattle.record.proofs.Record.of.Goals as goal

pub returns : goal.returns
unfolding mode_of counter_of length_of place_of
returns c = record { mode_is = c.from.ensures; counter_is = c.from-2.ensures; n_is = c.number.ensures; a_is = c.number-2.ensures }
