-- The front of the buffer is filled, module after module.
-- Assumes nothing.
use Rattle.std.proofs.Common.{◌≡◌}
use Rattle.list_laws.specs.Filled.{filled}
use Rattle.grid_text.specs.Border.{inner_module}
use Rattle.grid_text.proofs.border.copy_inner.Given as goal

abbrev pub invariant-loop-k : goal.invariant-loop-k
invariant-loop-k l = l.inner ≡ filled (inner_module l.grid l.side l.rings) l.k l.initial.inner
