-- `places::puncture::p2_kept_9_16` is table 3 at rate 9/16.
-- Assumes nothing.
use mathlib.Core.Path.{refl}
use native.Mathlib.Omega.{arith}
use borrow.Author.Tests.{lt-ltb, le-ltb}
use Rattle.places.proofs.OriginLaws.{p2_kept_9_16_lem}
use Rattle.places.proofs.puncture.p2_kept_9_16.Goals as goal

pub returns-then-r-lt9 : goal.returns-then-r-lt9
returns-then-r-lt9 c = (rw (p2_kept_9_16_lem _ c.requires, lt-ltb _ _ c.if-r-lt9.true) refl, omega arith)

pub returns-then-r-lt15 : goal.returns-then-r-lt15
returns-then-r-lt15 c = (rw (p2_kept_9_16_lem _ c.requires, le-ltb _ _ c.if-r-lt9.false, lt-ltb _ _ c.if-r-lt15.true) refl, omega arith)

pub returns-else-r-lt15 : goal.returns-else-r-lt15
returns-else-r-lt15 c = (rw (p2_kept_9_16_lem _ c.requires, le-ltb _ _ c.if-r-lt9.false, le-ltb _ _ c.if-r-lt15.false) refl, omega arith)
