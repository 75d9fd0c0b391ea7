-- A factor fewer each time.
-- Assumes nothing.
use Rattle.std.proofs.Common.{length}
use Rattle.evaluation.proofs.folded.+fold_by.Given as goal

abbrev pub decreases-fold_by : goal.decreases-fold_by
decreases-fold_by a = length a.factors.now
