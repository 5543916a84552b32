-- `places::puncture::p2_kept_3_4` is table 3 at rate 3/4.
-- Assumes nothing.
use mathlib.Core.Path.{refl}
use native.Mathlib.Omega.{arith}
use borrow.Author.Tests.{lt-ltb, le-ltb}
use Rattle.places.proofs.OriginLaws.{p2_kept_3_4_lem}
use Rattle.places.proofs.puncture.p2_kept_3_4.Goals as goal

pub returns-then-r-lt3 : goal.returns-then-r-lt3
returns-then-r-lt3 c = (rw (p2_kept_3_4_lem _ c.requires, lt-ltb _ _ c.if-r-lt3.true) refl, omega arith)

pub returns-else-r-lt3 : goal.returns-else-r-lt3
returns-else-r-lt3 c = (rw (p2_kept_3_4_lem _ c.requires, le-ltb _ _ c.if-r-lt3.false) refl, omega arith)
