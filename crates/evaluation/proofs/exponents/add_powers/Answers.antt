-- The words before j have their power; e is the exponent of the next.
-- Assumes nothing.
use Rattle.std.proofs.Common.{◌≡◌, ◌<◌, arith, length}
use Rattle.finite_field.specs.Field.{size_of}
use Rattle.evaluation.proofs.Adding.{adding-none, adding-next}
use Rattle.evaluation.proofs.exponents.add_powers.Goals as goal

pub loop-j-init : goal.loop-j-init
loop-j-init c =
    adding-none (size_of c.args.field.now.size) c.args.start c.args.k c.args.s.now c.requires.start_bound c.requires.words

pub offset_bounds-field-e : goal.offset_bounds-field-e
offset_bounds-field-e c =
    omega (arith, c.loop-j.invariant.e-lt, c.args.field.now.tables.exp-length)

pub bounds-field-e : goal.bounds-field-e
bounds-field-e c =
    omega (arith, c.loop-j.invariant.e-lt, c.args.field.now.tables.exp-length)

pub turned-e-requires : goal.turned-e-requires
turned-e-requires c =
    record {
      fact_1 = c.args.field.now.tables.exp-length;
      fact_2 = omega (arith, c.loop-j.invariant.e-lt, c.args.field.now.tables.exp-length);
      fact_3 = omega (arith, c.requires.step_bound, c.args.field.now.tables.exp-length);
    }

pub loop-j-preserved : goal.loop-j-preserved
loop-j-preserved c =
    let l = c.loop-j in
    let h : l.j < length c.args.s.now = omega arith in
    adding-next (size_of c.args.field.now.size) c.args.start c.args.k c.args.s.now c.args.field.now.tables c.requires.step_bound l.invariant h c.turned-e.ensures

pub returns : goal.returns
returns c =
    let l = c.loop-j in
    let all : l.j ≡ length c.args.s.now = omega arith in
    let done = rw all at l.invariant in
    record { words = done.words; sums = done.sums; rest = done.rest }
