-- The greatest of the counts so far.
-- Assumes nothing.
use Rattle.std.proofs.Common.{◌∙◌, get_or}
use Rattle.orientation.specs.Greatest.{most-none, most-next}
use Rattle.orientation.proofs.position.most_of.Goals as goal

pub loop-count-init : goal.loop-count-init
loop-count-init c = most-none _

pub loop-count-preserved : goal.loop-count-preserved
loop-count-preserved c = c.max-most.ensures ∙ most-next (λ q. get_or c.args.counts.now q 0) c.loop-count.count-index c.loop-count.invariant
