-- `bench_run::read_full`: what a read gives is put behind what had come.
use Rattle.std.proofs.Common.{◌≡◌, ℕ, ◌+◌, ◌≤◌, List, ◌++◌, rules, length, take, drop, sym, ap, ◌∙◌, subst, le_refl, drop_at, length-take-le}
use Rattle.std.proofs.lemmas.Slice.{take-put_mid_below}
use Rattle.std.proofs.KnownBytes.{Consumes-trans}
use Rattle.std.specs.Io.KnownBytes.{Consumes}
use borrow.Rule.Slice.PartMut.{put_mid, post_of}
use lib.Seq.{take-add, take-append-le}
use Rattle.bench_run.proofs.read_full.Goals as goal

-- the front of a list whose part from a on was lent and came back as ys
front : (a k n : ℕ) (xs ys : List ℕ) → a ≤ length xs → n ≤ length ys → take (a + n) (put_mid a k xs ys) ≡ take a xs ++ take n ys
front a k n xs ys within fits =
    let after = post_of a k xs in
    let whole = put_mid a k xs ys in
    take-add a n whole
    ∙ ap (λ l. l ++ take n (drop a whole)) (take-put_mid_below _ _ _ _ _ (le_refl _) within)
    ∙ ap (λ l. take a xs ++ take n l) (drop_at (take a xs) (ys ++ after) a (length-take-le a xs within))
    ∙ ap (λ l. take a xs ++ l) (take-append-le n ys after fits)

pub loop-got-preserved : goal.loop-got-preserved
loop-got-preserved g c =
    let bytes = c.loop-got.bytes in
    let part = front c.loop-got.got _ c.in_ok-more.more bytes c.read.new.buf c.loop-got.invariant.1 c.in_ok-more.ensures.bound.0 in
    (search rules, search rules, subst (Consumes _ _) (sym part) (Consumes-trans _ _ _ _ _ c.loop-got.invariant.2 c.in_ok-more.ensures.bytes.0))
