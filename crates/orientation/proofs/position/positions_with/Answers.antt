-- The bits of the positions from p on, below them none.
-- Assumes nothing.
use Rattle.std.proofs.Common.{◌≡◌, ap, Bool, ℕ, ◌-◌, ◌<◌, arith, get_or, pow_mono, eq-eqb, ne_eqb}
use Rattle.list_laws.specs.Range.{one}
use Rattle.orientation.specs.Masks.{mask_from, mask-none, mask-down, mask_below}
use Rattle.orientation.proofs.position.positions_with.Invariants.{has}
use Rattle.orientation.proofs.position.positions_with.Goals as goal

few : (test : ℕ → Bool) (p : ℕ) {m : ℕ} → m ≡ mask_from test p (8 - p) → m < 256
few test p e = omega (arith, mask_below test (8 - p) p, pow_mono {i = 8 - p} {j = 8} (omega arith))

pub loop-p-init : goal.loop-p-init
loop-p-init c = (omega arith, mask-none _ 8)

pub overflow_mul-mask : goal.overflow_mul-mask
overflow_mul-mask c = omega (arith, few _ c.loop-p.p c.loop-p.invariant.1)

pub overflow_add-mask : goal.overflow_add-mask
overflow_add-mask c = let l = c.loop-p in omega (arith, few _ l.p l.invariant.1)

pub loop-p-preserved-then-counts-p : goal.loop-p-preserved-then-counts-p
loop-p-preserved-then-counts-p c =
    let l = c.loop-p in
    let a = c.args in
    let test = has a.most a.counts.now in
    let fact = eq-eqb (get_or a.counts.now (l.p - 1) 0) a.most (omega (arith, c.if-counts-p.true)) in
    (omega arith, omega (arith, mask-down test l.p 8 (omega arith) l.invariant.0 l.invariant.1, ap one fact))

pub loop-p-preserved : goal.loop-p-preserved
loop-p-preserved c =
    let l = c.loop-p in
    let a = c.args in
    let test = has a.most a.counts.now in
    let fact = ne_eqb (get_or a.counts.now (l.p - 1) 0) a.most (λ e. omega (arith, e, c.if-counts-p.false)) in
    (omega arith, omega (arith, mask-down test l.p 8 (omega arith) l.invariant.0 l.invariant.1, ap one fact))
