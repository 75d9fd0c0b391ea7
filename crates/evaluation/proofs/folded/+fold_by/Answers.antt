-- Each folding keeps the values, until no factor is left.
-- Assumes nothing.
use Rattle.std.proofs.Common.{rules, ◌≡◌, length, ◌∷◌, ◌*◌, ◌/◌, le_refl, arith}
use Rattle.finite_field.specs.Field.{size_of}
use Rattle.finite_field.specs.FieldLaws.{most-words}
use Rattle.evaluation.proofs.Classes.{classes-pos, fold-room}
use Rattle.evaluation.proofs.Dividing.{divides-now, divides-none, divides-same, divides-next}
use Rattle.evaluation.proofs.folded.+fold_by.Goals as goal

pub fold-requires : goal.fold-requires
fold-requires t c =
    let f = c.args.folding in
    let size = size_of c.args.field.now.size in record {
      from_words = c.requires.folded.1.words;
      to_words = c.requires.words;
      divided_1 = divides-now size f.classes f.per f.part c.args.factors.now c.requires.divided;
      divided_2 = c.requires.n_bound;
      divided_3 = c.requires.long_1;
      divided_4 = c.requires.long_2;
    }

pub finish-requires : goal.finish-requires
finish-requires t c =
    let size = size_of c.args.field.now.size in
    let f = c.args.folding in
    let none : length c.args.factors.now ≡ 0 = search rules in record {
      words = (c.fold.ensures c.requires.folded.0 c.requires.folded.1).words;
      asked = c.requires.asked;
      cleared = c.requires.cleared;
      divided_1 = divides-now size f.classes f.per f.part c.args.factors.now c.requires.divided;
      divided_2 = divides-none size f.classes f.per f.part c.args.factors.now none c.requires.divided;
      divided_3 = c.requires.n_bound;
      divided_4 = omega (arith, c.fold.auto.to, c.requires.long_2);
    }

pub overflow_mul-next : goal.overflow_mul-next
overflow_mul-next t c =
    let f = c.args.folding in
    let size = size_of c.args.field.now.size in
    let d = divides-now size f.classes f.per f.part c.args.factors.now c.requires.divided in
    let room = fold-room d (le_refl c.args.folding.per) d.m-pos (classes-pos d) in
    omega (arith, most-words size)

pub nonzero_div-next : goal.nonzero_div-next
nonzero_div-next t c =
    let f = c.args.folding in
    let size = size_of c.args.field.now.size in
    let some : c.args.factors.now ≡ c.in-Some.per.now ∷ c.in-Some.rest.now = search rules in
    (divides-now size (f.classes * f.per) c.in-Some.per.now (f.part / c.in-Some.per.now) c.in-Some.rest.now (divides-next size f.classes f.per f.part some c.requires.divided)).per_pos

pub fold_by-requires : goal.fold_by-requires
fold_by-requires t c =
    let f = c.args.folding in
    let size = size_of c.args.field.now.size in
    let some : c.args.factors.now ≡ c.in-Some.per.now ∷ c.in-Some.rest.now = search rules in
    let v = c.requires.folded.0 in
    let m = c.args.folding.classes * c.args.folding.per in
    let once = c.fold.ensures v c.requires.folded.1 in (
      search rules,
      (
        divides-next size f.classes f.per f.part some c.requires.divided,
        (
          (v, rw (divides-same size f.classes f.per f.part some c.requires.divided) once),
          (
            c.requires.folded.1.words,
            (
              omega (arith, c.fold.auto.to, c.requires.long_2),
              (c.requires.long_1, (c.requires.n_bound, (c.requires.asked, c.requires.cleared))),
            ),
          ),
        ),
      ),
    )

pub returns-in-None : goal.returns-in-None
returns-in-None t c v folded = c.finish.ensures v (c.fold.ensures v folded)

pub returns-in-Some : goal.returns-in-Some
returns-in-Some t c v folded =
    let f = c.args.folding in
    let size = size_of c.args.field.now.size in
    let some : c.args.factors.now ≡ c.in-Some.per.now ∷ c.in-Some.rest.now = search rules in
    c.fold_by.ensures v (rw (divides-same size f.classes f.per f.part some c.requires.divided) (c.fold.ensures v folded))
