-- The greatest of the modules so far.
-- Assumes nothing.
use Rattle.std.proofs.Common.{◌≡◌, get_or}
use Rattle.orientation.specs.Greatest.{most}
use Rattle.orientation.proofs.modules.all_lawful.Given as goal

abbrev pub invariant-loop-module : goal.invariant-loop-module
invariant-loop-module l = l.most ≡ most (λ i. get_or l.grid i 0) l.module-index
