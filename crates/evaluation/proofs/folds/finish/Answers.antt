-- Horner's rule: before coefficient r - 1 the values have those from r on.
-- Assumes nothing.
use Rattle.std.proofs.Common.{rules, length, ◌≡◌, refl, ◌∙◌, ◌*◌, ◌≤◌, le_refl, le-mul_of_pos_right, arith, lit<}
use Rattle.finite_field.specs.Field.{size_of}
use Rattle.finite_field.specs.FieldLaws.{most-words}
use Rattle.evaluation.proofs.Classes.{finishing-none, finishing-next, finished, classes-pos, fold-room}
use Rattle.evaluation.proofs.folds.finish.Goals as goal

pub overflow_mul-m : goal.overflow_mul-m
overflow_mul-m c =
    let d = c.requires.divided_1 in
    let room = fold-room d (le_refl c.args.last.per) d.m-pos (classes-pos d) in
    omega (arith, most-words (size_of c.args.field.now.size))

pub pieces-r-requires : goal.pieces-r-requires
pieces-r-requires c =
    record {
      fact_1 = lit< tt;
      fact_2 = c.requires.divided_1.part-pos;
      fact_3 = c.requires.divided_3;
    }

pub loop-r-init : goal.loop-r-init
loop-r-init c =
    let last = c.args.last in (
      refl,
      finishing-none (size_of c.args.field.now.size) c.args.first (last.classes * last.per) last.part _ c.args.from.now (length c.args.out.now)
          c.args.out.now c.requires.asked.words c.requires.cleared,
    )

pub add_row-requires : goal.add_row-requires
add_row-requires c =
    let l = c.loop-r in
    let asked = c.requires.asked in
    let d = c.requires.divided_1 in
    let few = c.pieces-r.ensures.few in
    let last = c.args.last in
    let many : last.classes ≤ last.classes * last.per = le-mul_of_pos_right last.classes d.per_pos in record {
      asked = record { first-le = asked.first-le; last-le = omega (arith, l.invariant.0, asked.last-le); fits = le_refl _; words = l.invariant.1.words };
      lt_m_1 = omega arith;
      lt_m_2 = omega arith;
      lt_m_3 = omega (arith, d.whole);
    }

pub loop-r-preserved : goal.loop-r-preserved
loop-r-preserved c =
    let l = c.loop-r in
    let add_row = c.add_row in
    let last = c.args.last in (
      add_row.auto.out ∙ l.invariant.0,
      finishing-next (size_of c.args.field.now.size) c.args.first (last.classes * last.per) last.part _ c.args.from.now (length c.args.out.now)
          c.args.out.now c.requires.words l.invariant.1 (search rules) (omega arith) (rw l.invariant.0 at add_row.ensures),
    )

pub returns : goal.returns
returns c =
    let l = c.loop-r in
    let last = c.args.last in
    let all : l.r ≡ 0 = omega arith in
    finished (size_of c.args.field.now.size) c.args.first (last.classes * last.per) last.part _ c.args.from.now (length c.args.out.now)
    c.args.out.now c.args.n c.pieces-r.ensures (classes-pos c.requires.divided_1) (rw all at l.invariant.1)
