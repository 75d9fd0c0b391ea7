-- The loop keeps what algebra's does; length and place grow together, to twice t at most.
-- Assumes nothing.
use Rattle.std.proofs.Common.{rules, refl, ◌∙◌, arith, length-set}
use Rattle.finite_field.specs.Field.{size_of}
use Rattle.correction.proofs.Turn.{started, finished}
use Rattle.correction.proofs.locator.locate.Goals as goal

pub loop-state-init : goal.loop-state-init
loop-state-init c = (
  refl,
  (
    refl,
    started (size_of c.args.field.now.size) c.args.p.now c.args.q.now (omega arith) c.requires.t_in_bounds_3 c.requires.t_in_bounds_4,
  ),
)

pub step-state-requires : goal.step-state-requires
step-state-requires c =
    let l = c.loop-state in record {
      words = c.requires.words;
      u_in_bounds = c.requires.u_in_bounds;
      t_in_bounds_1 = omega (arith, l.invariant.0 ∙ length-set c.args.p.now 0 1);
      t_in_bounds_2 = omega arith;
      t_in_bounds_3 = omega arith;
      locating = l.invariant.1.1;
    }

pub loop-state-smaller : goal.loop-state-smaller
loop-state-smaller c = omega (arith, c.loop-state.invariant.1.1.locating.L-le)

pub loop-state-preserved : goal.loop-state-preserved
loop-state-preserved c = (search rules, (search rules, c.step-state.ensures.locating_2))

pub returns : goal.returns
returns c =
    let all = c.loop-state.invariant.1.1 in record {
      located = finished (size_of c.args.field.now.size) all (omega arith);
      words = all.q-words;
    }
