-- The front of the buffer is filled, module after module.
-- Assumes nothing.
use Rattle.std.proofs.Common.{arith}
use Rattle.list_laws.specs.Filled.{filled_none, filled-step}
use Rattle.grid_text.specs.Border.{inner_module}
use Rattle.grid_text.specs.BorderLaws.{inner-least}
use Rattle.grid_text.proofs.border.copy_inner.Goals as goal

pub loop-k-init : goal.loop-k-init
loop-k-init c = filled_none (inner_module c.args.grid.now c.args.side c.args.rings) c.args.inner.now

pub loop-k-preserved : goal.loop-k-preserved
unfolding inner_module
loop-k-preserved c =
    let a = c.args in
    let l = c.loop-k in
    filled-step (inner_module a.grid.now a.side a.rings) l.k a.inner.now l.invariant c.module_at.ensures (omega (arith, inner-least a.side a.rings))
