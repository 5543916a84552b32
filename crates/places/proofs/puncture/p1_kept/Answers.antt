-- `places::puncture::p1_kept` is table 2.
-- Assumes nothing.
use mathlib.Core.Path.{refl}
use native.Mathlib.Omega.{arith}
use borrow.Author.Tests.{lt-ltb, le-ltb, eq-eqb, ne_eqb}
use Rattle.places.proofs.OriginLaws.{p1_kept_lem}
use Rattle.places.proofs.puncture.p1_kept.Goals as goal

pub returns-then-r-lt12 : goal.returns-then-r-lt12
returns-then-r-lt12 c = (rw (p1_kept_lem _ c.requires, lt-ltb _ _ c.if-r-lt12.true) refl, omega arith)

pub returns-then-r-eq0 : goal.returns-then-r-eq0
returns-then-r-eq0 c = (rw (p1_kept_lem _ c.requires, le-ltb _ _ c.if-r-lt12.false, eq-eqb _ _ c.if-r-eq0.true) refl, omega arith)

pub returns-else-r-eq0 : goal.returns-else-r-eq0
returns-else-r-eq0 c = (rw (p1_kept_lem _ c.requires, le-ltb _ _ c.if-r-lt12.false, ne_eqb _ _ c.if-r-eq0.false) refl, omega arith)
