-- The places of the first s sides are written.
-- Assumes nothing.
use Rattle.std.proofs.Common.{◌*◌, zero-mul, arith}
use Rattle.list_laws.specs.Writes.{writes-none, writes_more}
use Rattle.symbol.specs.Walk.{run}
use Rattle.symbol.proofs.places.layer_places.Goals as goal

pub loop-s-init : goal.loop-s-init
loop-s-init c = rw zero-mul (writes-none _ _ _)

pub loop-s-preserved : goal.loop-s-preserved
loop-s-preserved c =
    let l = c.loop-s in
    let n = run c.args.layer in
    writes_more _ _ _ (l.s * n) n _ l.invariant c.side_places.ensures (omega arith)
