-- Every step of a train is shown: its X or its Y is sent, or else X and Y of the next step both are.
--   Window  what is kept of the four places from 2 c on: the first two, or the first and the last, or all but the first
--   Shown   how a step is shown
-- Assumes nothing.
use mathlib.Core.Bool.{Bool, true, false}
use Prim.Native.Nat.{ℕ, ◌+◌, ◌*◌}
use lib.Dec.{T}
use Rattle.places.specs.Selection.{Selection, after}
use Rattle.places.specs.Puncture.{p1}
use Rattle.unique.proofs.P1Laws.{Form, pair, apart, lone_y, lone_x, p1_formed}
use Rattle.unique.proofs.KeptLaws.{kept, Sent, kept_sent, sent_after}
use Rattle.unique.proofs.WindowLaws.{window, window_at, Windowed}

-- what is kept of the four places from 2 c on
data Window (f : Selection) (c : ℕ) : Type 0 where
  front : Sent f (2 * c) → Sent f (2 * c + 1) → Window f c
  ends : Sent f (2 * c) → Sent f (2 * c + 3) → Window f c
  back : Sent f (2 * c + 1) → Sent f (2 * c + 2) → Sent f (2 * c + 3) → Window f c

window_of : (f : Selection) (c : ℕ) → T (window_at f c) → Window f c
window_of f c t =
    go (kept f (2 * c)) (kept f (2 * c + 1)) (kept f (2 * c + 2)) (kept f (2 * c + 3))
    (kept_sent f (2 * c)) (kept_sent f (2 * c + 1)) (kept_sent f (2 * c + 2)) (kept_sent f (2 * c + 3)) t
  where
    go : (k0 k1 k2 k3 : Bool)
        → (T k0 → Sent f (2 * c)) → (T k1 → Sent f (2 * c + 1)) → (T k2 → Sent f (2 * c + 2)) → (T k3 → Sent f (2 * c + 3))
        → T (window k0 k1 k2 k3) → Window f c
    go true true k2 k3 s0 s1 s2 s3 t = front (s0 tt) (s1 tt)
    go true false k2 true s0 s1 s2 s3 t = ends (s0 tt) (s3 tt)
    go true false k2 false s0 s1 s2 s3 t = absurd t
    go false true true true s0 s1 s2 s3 t = back (s1 tt) (s2 tt) (s3 tt)
    go false true true false s0 s1 s2 s3 t = absurd t
    go false true false k3 s0 s1 s2 s3 t = absurd t
    go false false k2 k3 s0 s1 s2 s3 t = absurd t

-- how step d is shown: by its X, by its Y, or by X and Y of the next step
pub data Shown (f : Selection) (d : ℕ) : Type 0 where
  by_x : Sent f (2 * d) → Shown f d
  by_y : Sent f (2 * d + 1) → Shown f d
  by_next : Sent f (2 * d + 2) → Sent f (2 * d + 3) → Shown f d

-- a step in one of the four forms is shown through a window
form_shown : {f g : Selection} {d c : ℕ} → Form f d c → Window g c → Shown (after f g) d
form_shown (pair x y) (front s0 s1) = by_x (sent_after x s0)
form_shown (pair x y) (ends s0 s3) = by_x (sent_after x s0)
form_shown (pair x y) (back s1 s2 s3) = by_y (sent_after y s1)
form_shown (apart x y) (front s0 s1) = by_x (sent_after x s0)
form_shown (apart x y) (ends s0 s3) = by_x (sent_after x s0)
form_shown (apart x y) (back s1 s2 s3) = by_y (sent_after y s3)
form_shown (lone_y y x' y') (front s0 s1) = by_y (sent_after y s1)
form_shown (lone_y y x' y') (ends s0 s3) = by_next (sent_after x' s0) (sent_after y' s3)
form_shown (lone_y y x' y') (back s1 s2 s3) = by_y (sent_after y s1)
form_shown (lone_x x x' y') (front s0 s1) = by_x (sent_after x s0)
form_shown (lone_x x x' y') (ends s0 s3) = by_x (sent_after x s0)
form_shown (lone_x x x' y') (back s1 s2 s3) = by_next (sent_after x' s2) (sent_after y' s3)

pub step_shown : (a : ℕ) (g : Selection) → Windowed g → (d : ℕ) → Shown (after (p1 a) g) d
step_shown a g windowed d = let (c, form) = p1_formed a d in form_shown form (window_of g c (windowed.windows c))
