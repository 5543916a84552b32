-- What a byte costs, case by case, and that a step costs as its bytes say.
-- Assumes nothing.
use Rattle.std.proofs.Common.{◌≡◌, ℕ, zero, suc, ◌+◌, ◌-◌, ◌*◌, ◌<◌, ◌≤◌, Bool, true, false, eqb, ◌⊎◌, List, get_or, refl, ap₂, inl, inr, arith}
use borrow.Author.Tests.{eqb-false}
use Rattle.laws.specs.Lists.{choose}
use Rattle.coder.specs.Encoder.{tailed}
use Rattle.coder.specs.Register.{register, parity, mask_x, mask_y}
use Rattle.coder.specs.Train.{Train}
use Rattle.coder.proofs.EncoderLaws.{coded_x, coded_y}
use Rattle.coder.proofs.TrainLaws.{tailed_bits}
use Rattle.trellis.specs.Heard.{branch, mark_cost}
use Rattle.search.specs.Stored.{paired}
use Rattle.search.specs.Bytes.{byte_cost, byte_heard, agreeing, Costs, cost_of, heard_of}
use Rattle.search.specs.Spread.{SoftBytes}

byte_most : (byte bit : ℕ) → byte < 256 → byte_cost byte bit ≤ 127
unfolding byte_cost
byte_most byte bit h = go (eqb byte 0) refl (eqb bit 0)
  where
    go : (x : Bool) → eqb byte 0 ≡ x → (y : Bool) → choose x 0 (choose y (byte - 128) (128 - byte)) ≤ 127
    go true e y = omega arith
    go false e true = omega arith
    go false e false = omega (arith, eqb-false byte 0 e)

pub cost_most : (heard : List ℕ) → ((m : ℕ) → get_or heard m 0 < 256) → (m bit : ℕ) → cost_of heard m bit ≤ 127
unfolding cost_of
cost_most heard bytes m bit = byte_most (get_or heard m 0) bit (bytes m)

-- a soft byte of -80 to 80
byte_soft : (byte bit : ℕ) → (byte ≡ 0) ⊎ ((48 ≤ byte) × (byte ≤ 208)) → byte_cost byte bit ≤ 80
unfolding byte_cost
byte_soft byte bit (inl e) = rw e (omega arith)
byte_soft byte bit (inr h) = go (eqb byte 0) (eqb bit 0)
  where
    go : (x y : Bool) → choose x 0 (choose y (byte - 128) (128 - byte)) ≤ 80
    go true y = omega arith
    go false true = omega arith
    go false false = omega arith

pub cost_soft : (heard : List ℕ) → SoftBytes heard → (m bit : ℕ) → cost_of heard m bit ≤ 80
unfolding cost_of
cost_soft heard soft m bit = byte_soft (get_or heard m 0) bit (soft m)

pub heard_most : (byte : ℕ) (z : Bool) → choose z (byte_heard byte) 0 ≤ 1
unfolding byte_heard
heard_most byte z = go z (eqb byte 0)
  where
    go : (x y : Bool) → choose x (choose y 0 1) 0 ≤ 1
    go true true = omega arith
    go true false = omega arith
    go false y = omega arith

-- where the two coded bits of a step cost as x and y say, a register costs what its coded bits do
pub paired_costs : (x y : ℕ → ℕ) (x0 x1 y0 y1 : ℕ) → Costs x y x0 x1 y0 y1 → (r : ℕ)
    → paired x0 x1 y0 y1 r ≡ x (parity r mask_x) + y (parity r mask_y)
unfolding paired
paired_costs x y x0 x1 y0 y1 costs r =
    ap₂ ◌+◌ (by x x0 x1 costs.x_0 costs.x_1 (parity r mask_x) (omega arith)) (by y y0 y1 costs.y_0 costs.y_1 (parity r mask_y) (omega arith))
  where
    by : (f : ℕ → ℕ) (c0 c1 : ℕ) → c0 ≡ f 0 → c1 ≡ f 1 → (p : ℕ) → p < 2 → choose (eqb p 0) c0 c1 ≡ f p
    by f c0 c1 e0 e1 zero h = e0
    by f c0 c1 e0 e1 (suc zero) h = e1
    by f c0 c1 e0 e1 (suc (suc p)) h = absurd (omega arith)

-- in the first pass
pub branch_heard : (heard : List ℕ) (t x0 x1 y0 y1 : ℕ) → Costs (byte_cost (get_or heard (2 * t) 0)) (byte_cost (get_or heard (2 * t + 1) 0)) x0 x1 y0 y1
    → (r : ℕ) → paired x0 x1 y0 y1 r ≡ branch (cost_of heard) t r
unfolding branch cost_of
branch_heard heard t x0 x1 y0 y1 costs r = paired_costs _ _ x0 x1 y0 y1 costs r

-- and in the mark's
pub branch_agreeing : (heard w : List ℕ) {N : ℕ} → Train N w → (t x0 x1 y0 y1 : ℕ)
    → Costs (agreeing (get_or heard (2 * t) 0) (parity (register (tailed w) (suc t)) mask_x))
    (agreeing (get_or heard (2 * t + 1) 0) (parity (register (tailed w) (suc t)) mask_y)) x0 x1 y0 y1
    → (r : ℕ) → paired x0 x1 y0 y1 r ≡ branch (mark_cost (cost_of heard) (heard_of heard) w) t r
unfolding branch mark_cost cost_of heard_of agreeing
branch_agreeing heard w train t x0 x1 y0 y1 costs r =
    let bits = tailed_bits train in
    rw (coded_x (tailed w) bits t, coded_y (tailed w) bits t) (paired_costs _ _ x0 x1 y0 y1 costs r)
