-- The values before j have the coefficient of their class; class is that of first + j.
-- Assumes nothing.
use Rattle.std.proofs.Common.{rules, ◌≡◌, sym, ap, ◌∙◌, ◌+◌, ◌%◌, ◌<◌, add-zero, mod-eq_of_lt, le_refl, arith, length, length-set}
use Rattle.list_laws.specs.Filled.{filled_none}
use Rattle.finite_field.specs.Field.{size_of}
use Rattle.evaluation.proofs.Elements.{not-yet-filled}
use Rattle.evaluation.proofs.Folding.{rowing-next, class-next, class-lt, at-class}
use Rattle.evaluation.proofs.folds.add_row.Goals as goal

pub loop-j-init : goal.loop-j-init
loop-j-init c =
    (sym (ap (λ n. n % c.args.m) (add-zero c.args.first) ∙ mod-eq_of_lt (let h : c.args.first < c.args.m = omega (arith, c.requires.asked.first-le) in h)), search rules, filled_none _ _)

pub times_power-requires : goal.times_power-requires
times_power-requires c =
    let l = c.loop-j in record {
      word = rw (not-yet-filled _ l.j l.j c.args.out.now l.invariant.2 (le_refl l.j)) (c.requires.asked.words l.j);
      k_bound = omega (arith, c.requires.asked.last-le);
    }

pub overflow_mul-out : goal.overflow_mul-out
overflow_mul-out c =
    omega (arith, at-class _ c.args.m c.args.stride c.loop-j.invariant.0 (omega arith) c.requires.lt_m_2)

pub overflow_add-out : goal.overflow_add-out
overflow_add-out c =
    omega (arith, at-class _ c.args.m c.args.stride c.loop-j.invariant.0 (omega arith) c.requires.lt_m_2)

pub offset_bounds-from-class : goal.offset_bounds-from-class
offset_bounds-from-class c =
    omega (arith, at-class _ c.args.m c.args.stride c.loop-j.invariant.0 (omega arith) c.requires.lt_m_2)

pub bounds-from-class : goal.bounds-from-class
bounds-from-class c =
    omega (arith, at-class _ c.args.m c.args.stride c.loop-j.invariant.0 (omega arith) c.requires.lt_m_2)

pub next_class-class-requires : goal.next_class-class-requires
next_class-class-requires c = class-lt _ (omega arith) c.loop-j.invariant.0

pub loop-j-preserved : goal.loop-j-preserved
loop-j-preserved c =
    let l = c.loop-j in
    let h : l.j < length c.args.out.now = omega arith in
    let further : c.args.first + l.j + 1 ≡ c.args.first + (l.j + 1) = omega arith in (
      class-next c.args.m (c.args.first + l.j) l.invariant.0 c.next_class-class.ensures ∙ ap (λ n. n % c.args.m) further,
      simp length-set (search rules),
      rowing-next (size_of c.args.field.now.size) c.args.first c.args.m c.args.stride c.args.r l.j c.args.from.now c.args.out.now l.invariant.2 l.invariant.0 c.times_power.ensures h,
    )

pub returns : goal.returns
returns c =
    let l = c.loop-j in
    let all : l.j ≡ (length c.args.out.now) = omega arith in
    rw all at l.invariant.2
