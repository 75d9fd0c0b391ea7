-- The loop is Gathering's.
-- Assumes nothing.
use Rattle.std.proofs.Common.{rules, refl, sym, ap, ◌∙◌, subst, arith, Bool, not, T, length, length-set}
use Rattle.finite_field.specs.Field.{size_of}
use Rattle.correction.proofs.Gathering.{gathering-none, gathering-skip, gathering-take, gathering-all, degree-le}
use Rattle.correction.proofs.values.gather.Goals as goal
use Rattle.correction.proofs.values.gather.Goals.{else-is_taken, then-is_taken}

pub loop-i-init : goal.loop-i-init
loop-i-init c =
    let a = c.args in (
      refl,
      refl,
      gathering-none (size_of a.field.now.size) a.degree a.p.now a.marks.now a.g.now c.requires.marks_in_bounds_2_2
          c.requires.marks_in_bounds_2_3 (search rules),
    )

pub times_root-requires : goal.times_root-requires
times_root-requires c =
    let a = c.args in
    let l = c.loop-i in
    let few = degree-le (size_of a.field.now.size) a.degree a.p.now a.marks.now l.invariant.2 in record {
      words = l.invariant.2.words;
      k_bound_1 = omega (arith, c.requires.marks_in_bounds_2);
      k_bound_2 = omega (arith, l.invariant.1, length-set a.g.now 0 1);
    }

pub overflow_add-m : goal.overflow_add-m
overflow_add-m c =
    let a = c.args in
    omega (arith, degree-le (size_of a.field.now.size) a.degree a.p.now a.marks.now c.loop-i.invariant.2)

pub loop-i-preserved : goal.loop-i-preserved
loop-i-preserved c =
    let a = c.args in
    let l = c.loop-i in
    let size = size_of a.field.now.size in
    elim c.if-is_taken.branch [
      | then-is_taken w ↦ (
        ap length w.places-is ∙ length-set l.places l.i 1 ∙ l.invariant.0,
        ap length w.g-is ∙ w.times_root.auto.g ∙ l.invariant.1,
        rw (w.places-is, w.g-is, w.m-is) (gathering-take size a.degree a.p.now a.marks.now l.invariant.2 (subst T (sym w.if-is_taken.true ∙ c.is_taken.ensures) tt) (search rules) w.times_root.ensures),
      )
      | else-is_taken w ↦ (
        ap length w.places-is ∙ l.invariant.0,
        ap length w.g-is ∙ l.invariant.1,
        rw (w.places-is, w.g-is, w.m-is) (gathering-skip size a.degree a.p.now a.marks.now l.invariant.2 (subst (λ (b : Bool). T (not b)) (sym w.if-is_taken.false ∙ c.is_taken.ensures) tt)),
      )
    ]

pub returns : goal.returns
returns c =
    let a = c.args in
    gathering-all (size_of a.field.now.size) a.degree a.p.now a.marks.now c.loop-i.invariant.2 (search rules)
