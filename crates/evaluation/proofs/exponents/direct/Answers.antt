-- The words below k are in the values.
-- Assumes nothing.
use Rattle.std.proofs.Common.{rules, length, ◌≡◌, mul-le-mul_right, arith}
use Rattle.finite_field.specs.Field.{size_of}
use Rattle.evaluation.proofs.Direct.{summing-none, summing-same, summing-next, summed}
use Rattle.evaluation.proofs.exponents.direct.Goals as goal
use Rattle.evaluation.proofs.exponents.direct.Goals.{then-w-gt0, else-w-gt0}

pub loop-k-init : goal.loop-k-init
loop-k-init c =
    summing-none (size_of c.args.field.now.size) c.args.first c.args.from.now (length c.args.out.now) c.args.out.now c.requires.asked.words c.requires.cleared

pub offset_bounds-from-k : goal.offset_bounds-from-k
offset_bounds-from-k c =
    omega (arith, c.requires.given.n-le)

pub bounds-from-k : goal.bounds-from-k
bounds-from-k c =
    omega (arith, c.requires.given.n-le)

pub overflow_mul-first : goal.overflow_mul-first
overflow_mul-first c =
    omega (arith, mul-le-mul_right c.loop-k.k c.requires.asked.first-le)

pub exponent-start-requires : goal.exponent-start-requires
exponent-start-requires c =
    let loop = c.loop-k in record {
      word = c.requires.given.words loop.k (search rules);
      positive = c.if-w-gt0.true;
      k_bound = omega (arith, mul-le-mul_right loop.k c.requires.asked.first-le, c.requires.given.n-lt);
    }

pub add_powers-requires : goal.add_powers-requires
add_powers-requires c =
    let l = c.loop-k in record {
      start_bound = c.exponent-start.ensures.bound;
      step_bound = omega (arith, c.requires.given.n-lt);
      words = l.invariant.words;
    }

pub loop-k-preserved : goal.loop-k-preserved
loop-k-preserved c =
    let l = c.loop-k in
    let size = size_of c.args.field.now.size in
    elim c.if-w-gt0.branch [
      | then-w-gt0 w ↦
          rw w.out-is
          (summing-next size c.args.first c.args.from.now (length c.args.out.now) c.args.out.now (c.requires.given.words l.k (search rules)) l.invariant
          w.exponent-start.ensures.power (rw l.invariant.size at w.add_powers.ensures) w.add_powers.auto.s)
      | else-w-gt0 w ↦
          rw w.out-is (summing-same size c.args.first c.args.from.now (length c.args.out.now) c.args.out.now l.invariant (omega (arith, w.if-w-gt0.false)))
    ]

pub returns : goal.returns
returns c =
    let loop = c.loop-k in
    let all : loop.k ≡ (length c.args.from.now) = omega arith in
    summed (size_of c.args.field.now.size) c.args.first c.args.from.now (length c.args.out.now) c.args.out.now (length c.args.from.now) (rw all at loop.invariant)
