-- `soft::put_axis` meets its contract. The loop's invariant: the soft bytes of the bits passed are stored, and the reading is folded as often.
-- Assumes nothing.
use mathlib.Core.Path.{refl, sym}
use mir.Syntax.{w8}
use Rattle.laws.proofs.SignedLaws.{kept}
use Rattle.soft.specs.Closed.{folded_to}
use Rattle.soft.proofs.ClosedLaws.{folded_next, soft_next}
use Rattle.soft.proofs.StoredLaws.{stored_none, stored_put}
use Rattle.soft.proofs.put_axis.Goals as goal

pub loop-j-init : goal.loop-j-init
unfolding folded_to
loop-j-init c = record { folds = refl; so_far = sym (stored_none _ _ _) }

pub loop-j-preserved : goal.loop-j-preserved
loop-j-preserved c =
    let was = c.loop-j in
    let w = c.args.w in
    let p = c.args.reading.p in
    let x = c.first_byte in
    let s = c.lowered in
    record {
      folds = folded_next w was.j p was.left.p was.invariant.folds _ c.folded-left.ensures;
      so_far = stored_put _ _ _ _ _ _ was.invariant.so_far
          (kept w8 s.result s.type_inv
          (soft_next w was.j p was.left.p was.invariant.folds x.result _ x.ensures.0 s.ensures));
    }
