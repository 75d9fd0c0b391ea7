-- The words before r are added to the class.
-- Assumes nothing.
use Rattle.std.proofs.Common.{◌≡◌, ◌+◌, ◌<◌, arith, length}
use Rattle.finite_field.specs.Field.{size_of}
use Rattle.evaluation.proofs.Placing.{placed-none, not-yet-placed}
use Rattle.evaluation.proofs.Folding.{adding-next}
use Rattle.evaluation.proofs.folds.add_chunk.Goals as goal

pub loop-r-init : goal.loop-r-init
loop-r-init c =
    placed-none _ c.args.into c.args.to.now

pub times_power-requires : goal.times_power-requires
times_power-requires c =
    let l = c.loop-r in record {
      word = rw (not-yet-placed l.invariant) (c.requires.words (c.args.into + l.r));
      k_bound = c.requires.exponent;
    }

pub loop-r-preserved : goal.loop-r-preserved
loop-r-preserved c =
    let l = c.loop-r in
    let h : c.args.into + l.r < length c.args.to.now = omega arith in
    adding-next (size_of c.args.field.now.size) c.args.e c.args.from.now c.args.at c.args.into l.r l.invariant c.times_power.ensures h

pub returns : goal.returns
returns c =
    let loop = c.loop-r in
    let all : loop.r ≡ c.args.count = omega arith in rw all at loop.invariant
