-- The first rows are written.
-- Assumes nothing.
use Rattle.std.proofs.Common.{rules, refl, ◌*◌, zero-mul, arith}
use Rattle.list_laws.specs.Writes.{writes-none, writes_more}
use Rattle.sampling.proofs.upright.turn_upright.Goals as goal

pub loop-row-init : goal.loop-row-init
loop-row-init c = (refl, rw zero-mul (writes-none _ _ _))

pub loop-row-preserved : goal.loop-row-preserved
loop-row-preserved c =
    let n = c.args.n in
    (search rules, writes_more _ _ _ (c.loop-row.row * n) n _ c.loop-row.invariant.1 c.turn_row.ensures (omega arith))
