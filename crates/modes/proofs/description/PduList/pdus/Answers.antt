-- `modes::description::PduList::pdus` makes the PDUs of a fit list.
-- Assumes nothing.
use mathlib.Core.Path.{◌≡◌, ◌∙◌, ap}
use mathlib.Core.List.{List}
use Prim.Native.Nat.{◌≤◌, ◌<◌}
use native.Mathlib.Omega.{arith}
use lib.ListN.{length, length-set}
use lib.Seq.{take_all}
use Rattle.std.proofs.Common.{map}
use Rattle.std.proofs.lemmas.List.{take_more_set}
use Rattle.modes.specs.declared.Pdu.{Pdu}
use Rattle.modes.specs.Description.{held}
use Rattle.modes.specs.Passed.{told}
use Rattle.modes.proofs.PduLaws.{pdus_of_length}
use Rattle.modes.proofs.DescriptionLaws.{made_again}
use Rattle.modes.proofs.description.PduList.pdus.Goals as goal
use Rattle.modes.proofs.description.PduList.pdus.Goals.{In-loop-k}

long : (c : In-loop-k) → length (told c.args.self.now) ≡ c.args.self.now.count
long c = pdus_of_length _ _ _

few : (c : In-loop-k) → c.args.self.now.count ≤ 16
few c = omega (arith, c.requires.to_16, long c)

pub bounds-self-k : goal.bounds-self-k
bounds-self-k c = omega (arith, few (goal.at.bounds-self-k c).In-loop-k)

pub bounds-self-k-in-loop-k : goal.bounds-self-k-in-loop-k
bounds-self-k-in-loop-k c = omega (arith, few (goal.at.bounds-self-k-in-loop-k c).In-loop-k)

pub bounds-pdus-k : goal.bounds-pdus-k
bounds-pdus-k c = omega (arith, few (goal.at.bounds-pdus-k c).In-loop-k, c.loop-k.invariant.1)

pub loop-k-preserved : goal.loop-k-preserved
loop-k-preserved c =
    let room : c.loop-k.k < length c.loop-k.pdus = omega (arith, few (goal.at.loop-k-preserved c).In-loop-k, c.loop-k.invariant.1) in (
      ap (λ (made : List Pdu). map held made) (take_more_set _ _ _ room)
          ∙ made_again _ _ _ c.requires _ (omega arith) _ _ c.pdu_of.ensures c.loop-k.invariant.0,
      length-set _ _ _ ∙ c.loop-k.invariant.1,
    )

pub returns : goal.returns
returns c =
    let done : c.loop-k.k ≡ c.args.self.now.count = omega arith in
    rw done at c.loop-k.invariant.0
    ∙ take_all _ _ (omega (arith, pdus_of_length c.args.self.now.count c.args.self.now.modes c.args.self.now.lengths))
