-- The greatest of the counts so far.
-- Assumes nothing.
use Rattle.std.proofs.Common.{◌≡◌, get_or}
use Rattle.orientation.specs.Greatest.{most}
use Rattle.orientation.proofs.position.most_of.Given as goal

abbrev pub invariant-loop-count : goal.invariant-loop-count
invariant-loop-count l = l.most ≡ most (λ q. get_or l.counts q 0) l.count-index
