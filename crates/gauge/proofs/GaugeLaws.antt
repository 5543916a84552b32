-- A call is fit or not, and its promise is kept either way.
-- Assumes nothing.
use mathlib.Core.Path.{◌≡◌, refl, sym, ◌∙◌}
use mathlib.Core.Bool.{Bool, true, false, false≢true}
use mathlib.Core.Logic.{◌⊎◌, inl, inr}
use mathlib.Core.List.{List}
use Prim.Native.Nat.{ℕ, ◌≤◌}
use native.Mathlib.Omega.{arith}
use lib.ListN.{length, take, length-take}
use mir.Val.{bool_byte}
use Rattle.coder.specs.Train.{Train}
use Rattle.points.specs.Levels.{all_bits}
use Rattle.points.proofs.BitLaws.{bits_are, bits_all}
use Rattle.search.specs.Promises.{Marked}
use Rattle.gauge.specs.Gauge.{unfit, Lengths, Marks}

pub marks_not : (n : ℕ) (heard train : List ℕ) → (Lengths n heard train → Train n (take n train) → ⊥) → Marks n heard train unfit
marks_not n heard train never = record { fit = λ l t. absurd (never l t); not_fit = λ _. refl }

pub marks_so : (n r : ℕ) (heard train : List ℕ) → Lengths n heard train → Train n (take n train)
    → (r ≡ 1 × Marked n heard (take n train) true) ⊎ (r ≡ 0 × Marked n heard (take n train) false) → Marks n heard train r
marks_so n r heard train l t marked = record { fit = λ _ _. marked; not_fit = λ never. absurd (never l t) }

-- the mark's answer as a number
pub marked_by : (n r : ℕ) (m : Bool) (heard train : List ℕ) → r ≡ bool_byte m → Marked n heard train m
    → (r ≡ 1 × Marked n heard train true) ⊎ (r ≡ 0 × Marked n heard train false)
marked_by n r true heard train e marked = inl (e, marked)
marked_by n r false heard train e marked = inr (e, marked)

-- a train is its first n bytes, each a bit
pub bits_train : (n : ℕ) (train : List ℕ) → n ≤ length train → all_bits (take n train) ≡ true → Train n (take n train)
bits_train n train room e =
    record { count = simp length-take (omega arith); low = λ t h. bits_are (take n train) e t }

pub bits_not : (n : ℕ) (train : List ℕ) → all_bits (take n train) ≡ false → Train n (take n train) → ⊥
bits_not n train e t = false≢true (sym e ∙ bits_all (take n train) (λ k h. t.low k (omega (arith, t.count))))
