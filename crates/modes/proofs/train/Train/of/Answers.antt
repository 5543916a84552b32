-- `modes::train::Train::of` makes the train of a description whose list passes.
-- Assumes nothing.
use mathlib.Core.Path.{refl}
use native.Mathlib.Omega.{arith}
use Rattle.modes.specs.Passed.{pdus_in}
use Rattle.modes.proofs.PduLaws.{pdus_of_length}
use Rattle.modes.proofs.RefusalLaws.{fit_sized}
use Rattle.modes.proofs.train.Train.of.Goals as goal

pub invariant_of-result : goal.invariant_of-result
invariant_of-result c = record {
  few = omega (arith, c.requires.to_16, pdus_of_length c.args.by.now.list.count c.args.by.now.list.modes c.args.by.now.list.lengths);
  fit = rw c.pdus.ensures (fit_sized _ c.requires);
}

pub returns : goal.returns
unfolding pdus_in
returns c = record { kind_is = refl; list_is = c.pdus.ensures; counter_is = refl; a_is = refl }
