-- The dark modules of the first k.
-- Assumes nothing.
use Rattle.std.proofs.Common.{◌≡◌, sym, ap, ◌∙◌, arith, get_or, eq-eqb, ne_eqb}
use Rattle.list_laws.specs.Range.{count_none, count_yes, count_no, count_most}
use Rattle.orientation.specs.Family.{ring_cell, dark_ring}
use Rattle.symbol.specs.Shapes.{core}
use Rattle.orientation.proofs.family.dark_ring.Invariants.{dark}
use Rattle.orientation.proofs.family.dark_ring.Goals as goal
use Rattle.orientation.proofs.family.dark_ring.Goals.{else-grid-at-eq1, then-grid-at-eq1}

pub invariant_of-compact : goal.invariant_of-compact
unfolding core
invariant_of-compact c = record { room = omega arith; most = c.requires.1 }

pub core_place-at-requires : goal.core_place-at-requires
unfolding core
core_place-at-requires c = (omega arith, omega arith, omega arith)

pub loop-k-init : goal.loop-k-init
loop-k-init c = sym (count_none _)

pub overflow_add-dark : goal.overflow_add-dark
overflow_add-dark c =
    let l = c.loop-k in
    let a = c.args in
    omega (arith, l.invariant, count_most l.k (dark a.n a.grid.now))

pub loop-k-preserved : goal.loop-k-preserved
unfolding ring_cell core
loop-k-preserved c =
    let l = c.loop-k in
    let a = c.args in
    let at = ap (λ x. get_or a.grid.now x 0) c.core_place-at.ensures.place in
    let test = dark a.n a.grid.now in
    elim c.if-grid-at-eq1.branch [ then-grid-at-eq1 w ↦ w.dark-is ∙ count_yes l.k test l.invariant (eq-eqb _ 1 (sym at ∙ w.if-grid-at-eq1.true)) | else-grid-at-eq1 w ↦ w.dark-is ∙ count_no l.k test l.invariant (ne_eqb _ 1 (λ e. w.if-grid-at-eq1.false (at ∙ e))) ]

pub returns : goal.returns
unfolding dark_ring
returns c = let e : c.loop-k.k ≡ 40 = omega arith in rw e at c.loop-k.invariant
