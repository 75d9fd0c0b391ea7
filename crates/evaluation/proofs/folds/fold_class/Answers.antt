-- Horner's rule: before chunk k - 1 the class has the chunks from k on.
-- Assumes nothing.
use Rattle.std.proofs.Common.{rules, ◌≡◌, ◌-◌, arith}
use Rattle.finite_field.specs.Field.{size_of}
use Rattle.evaluation.proofs.Classes.{chunk-fits, folding-first, folding-next, folded-class}
use Rattle.evaluation.proofs.folds.fold_class.Goals as goal

pub overflow_mul-last : goal.overflow_mul-last
overflow_mul-last c =
    omega (arith, chunk-fits (c.args.chunks - 1) c.args.chunks c.args.part (omega arith))

pub overflow_add-at : goal.overflow_add-at
overflow_add-at c =
    omega (arith, chunk-fits (c.args.chunks - 1) c.args.chunks c.args.part (omega arith))

pub copy_chunk-requires : goal.copy_chunk-requires
copy_chunk-requires c =
    record {
      fact_1 = omega (arith, chunk-fits (c.args.chunks - 1) c.args.chunks c.args.part (omega arith));
      fact_2 = search rules;
    }

pub loop-k-init : goal.loop-k-init
loop-k-init c =
    folding-first (size_of c.args.field.now.size) c.args.part c.args.chunks c.args.from.now c.args.at c.args.into c.requires.from_words c.requires.to_words (omega arith) c.copy_chunk.ensures

pub overflow_mul-k : goal.overflow_mul-k
overflow_mul-k c =
    let loop = c.loop-k in
    omega (arith, chunk-fits (loop.k - 1) c.args.chunks c.args.part (omega (arith, loop.invariant.k_lt)))

pub overflow_add-at-in-loop-k : goal.overflow_add-at-in-loop-k
overflow_add-at-in-loop-k c =
    let loop = c.loop-k in
    omega (arith, chunk-fits (loop.k - 1) c.args.chunks c.args.part (omega (arith, loop.invariant.k_lt)))

pub add_chunk-requires : goal.add_chunk-requires
add_chunk-requires c =
    let loop = c.loop-k in
    let copy-chunk = c.copy_chunk in record {
      words = loop.invariant.words;
      exponent = c.requires.into_bound_1;
      count_in_bounds_1 = omega (arith, chunk-fits (loop.k - 1) c.args.chunks c.args.part (omega (arith, loop.invariant.k_lt)));
      count_in_bounds_2 = omega (arith, loop.invariant.size, copy-chunk.ensures.size);
    }

pub loop-k-preserved : goal.loop-k-preserved
loop-k-preserved c =
    let loop = c.loop-k in
    folding-next (size_of c.args.field.now.size) c.args.part c.args.chunks c.args.from.now c.args.at c.args.into c.requires.from_words loop.invariant (search rules) c.add_chunk.ensures

pub returns : goal.returns
returns c =
    let loop = c.loop-k in
    let all : loop.k ≡ 0 = omega arith in
    folded-class (size_of c.args.field.now.size) c.args.part c.args.chunks c.args.from.now c.args.at c.args.into c.requires.from_words c.copy_chunk.ensures (rw all at loop.invariant)
