-- The places of the first s sides are written.
-- Assumes nothing.
use Rattle.std.proofs.Common.{◌*◌, zero-mul, arith}
use Rattle.list_laws.specs.Writes.{writes-none, writes_more}
use Rattle.symbol.proofs.places.mode_places.Goals as goal

pub loop-s-init : goal.loop-s-init
loop-s-init c = (c.mode_run_of-run.ensures, rw zero-mul (writes-none _ _ _))

pub loop-s-preserved : goal.loop-s-preserved
loop-s-preserved c =
    let l = c.loop-s in
    let run = c.mode_run_of-run.result in
    (l.invariant.0, writes_more _ _ _ (l.s * run) run _ l.invariant.1 c.mode_side.ensures (omega arith))
