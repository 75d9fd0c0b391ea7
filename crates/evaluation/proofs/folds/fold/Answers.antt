-- The classes below c are made; class is that of c.
-- Assumes nothing.
use Rattle.std.proofs.Common.{◌≡◌, refl, sym, ◌∙◌, ◌*◌, mod-eq_of_lt, arith}
use Rattle.finite_field.specs.Field.{size_of}
use Rattle.finite_field.specs.FieldLaws.{most-words}
use Rattle.evaluation.proofs.Folding.{class-next, class-lt}
use Rattle.evaluation.proofs.Classes.{folded-none, folded-next, folded-all, fold-room, classes-pos}
use Rattle.evaluation.proofs.folds.fold.Goals as goal

pub pieces-chunks-requires : goal.pieces-chunks-requires
pieces-chunks-requires c =
    let d = c.requires.divided_1 in record {
      fact_1 = d.part-pos;
      fact_2 = d.per_pos;
      fact_3 = c.requires.divided_2;
    }

pub overflow_mul-stride : goal.overflow_mul-stride
overflow_mul-stride c =
    let d = c.requires.divided_1 in
    let room = fold-room d c.pieces-chunks.ensures.few d.m-pos (classes-pos d) in
    omega (arith, most-words (size_of c.args.field.now.size))

pub overflow_mul-classes : goal.overflow_mul-classes
overflow_mul-classes c =
    let d = c.requires.divided_1 in
    let room = fold-room d c.pieces-chunks.ensures.few d.m-pos (classes-pos d) in
    omega (arith, most-words (size_of c.args.field.now.size))

pub loop-c-init : goal.loop-c-init
loop-c-init c =
    let f = c.args.folding in (
      sym (mod-eq_of_lt c.requires.divided_1.m-pos),
      refl,
      folded-none (size_of c.args.field.now.size) f.classes f.per f.part _ c.args.from.now c.requires.to_words,
    )

pub overflow_mul-class : goal.overflow_mul-class
overflow_mul-class c =
    let l = c.loop-c in
    let d = c.requires.divided_1 in
    let room = fold-room d c.pieces-chunks.ensures.few (class-lt l.c d.m-pos l.invariant.0) c.loop-c-test.true in
    omega (arith, most-words (size_of c.args.field.now.size))

pub overflow_mul-c : goal.overflow_mul-c
overflow_mul-c c =
    let l = c.loop-c in
    let d = c.requires.divided_1 in
    let room = fold-room d c.pieces-chunks.ensures.few (class-lt l.c d.m-pos l.invariant.0) c.loop-c-test.true in
    omega (arith, most-words (size_of c.args.field.now.size))

pub fold_class-requires : goal.fold_class-requires
fold_class-requires c =
    let l = c.loop-c in
    let d = c.requires.divided_1 in
    let pieces = c.pieces-chunks in
    let room = fold-room d pieces.ensures.few (class-lt l.c d.m-pos l.invariant.0) c.loop-c-test.true in record {
      from_words = c.requires.from_words;
      to_words = l.invariant.2.words;
      into_bound_1 = omega arith;
      into_bound_2 = pieces.ensures.some;
      into_bound_3 = omega arith;
      into_bound_4 = omega arith;
    }

pub next_class-class-requires : goal.next_class-class-requires
next_class-class-requires c =
    let l = c.loop-c in
    class-lt l.c c.requires.divided_1.m-pos l.invariant.0

pub loop-c-preserved : goal.loop-c-preserved
loop-c-preserved c =
    let l = c.loop-c in
    let f = c.args.folding in
    let fold-class = c.fold_class in (
      class-next f.classes l.c l.invariant.0 c.next_class-class.ensures,
      fold-class.ensures.size ∙ l.invariant.1,
      folded-next (size_of c.args.field.now.size) f.classes f.per f.part _ c.args.from.now l.invariant.2 l.invariant.0 fold-class.ensures,
    )

pub returns : goal.returns
returns c =
    let l = c.loop-c in
    let f = c.args.folding in
    let all : l.c ≡ f.classes * f.per = omega arith in
    folded-all (size_of c.args.field.now.size) f.classes f.per f.part _ c.args.from.now c.args.n c.requires.divided_1
    c.pieces-chunks.ensures (rw all at l.invariant.2)
