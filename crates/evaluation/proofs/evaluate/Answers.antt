-- By folding or word by word.
-- Assumes nothing.
use Rattle.std.proofs.Common.{rules, ◌≡◌, length, replicate, ◌≤◌, mul-le-mul, arith}
use Rattle.finite_field.specs.Field.{size_of}
use Rattle.finite_field.specs.FieldLaws.{most-words}
use Rattle.evaluation.proofs.Clearing.{asked-cleared, is-cleared, valued-over}
use Rattle.evaluation.proofs.evaluate.Goals as goal

pub overflow_mul-from : goal.overflow_mul-from
overflow_mul-from c =
    let most = most-words (size_of c.args.field.now.size) in
    let n-le : length c.args.from.now ≤ 4096 = omega (arith, c.requires.given.n-lt) in
    let count-le : length c.fill.new.self ≤ 4096 = omega (arith, c.requires.asked.last-le, c.fill.ensures.len) in
    omega (arith, mul-le-mul n-le count-le)

pub direct-requires : goal.direct-requires
direct-requires c =
    let zeros : c.fill.new.self ≡ replicate (length c.args.out.now) 0 = search rules in
    let size = size_of c.args.field.now.size in record {
      given = c.requires.given;
      asked = asked-cleared size c.args.out.now c.requires.asked zeros;
      cleared = is-cleared size c.args.out.now c.requires.asked zeros;
    }

pub returns-then-from-out : goal.returns-then-from-out
returns-then-from-out c =
    let zeros : c.fill.new.self ≡ replicate (length c.args.out.now) 0 = search rules in
    valued-over (size_of c.args.field.now.size) c.args.out.now c.requires.asked zeros c.direct.ensures

pub folded_whole-requires : goal.folded_whole-requires
folded_whole-requires c =
    let zeros : c.fill.new.self ≡ replicate (length c.args.out.now) 0 = search rules in
    let size = size_of c.args.field.now.size in record {
      given = c.requires.given;
      asked = asked-cleared size c.args.out.now c.requires.asked zeros;
      cleared = is-cleared size c.args.out.now c.requires.asked zeros;
      words = search rules;
    }

pub returns-else-from-out : goal.returns-else-from-out
returns-else-from-out c =
    let zeros : c.fill.new.self ≡ replicate (length c.args.out.now) 0 = search rules in
    valued-over (size_of c.args.field.now.size) c.args.out.now c.requires.asked zeros c.folded_whole.ensures
