-- The positions before p are counted.
-- Assumes nothing.
use Rattle.std.proofs.Common.{◌≡◌, length}
use Rattle.orientation.specs.Counting.{Counted}
use Rattle.orientation.proofs.position.count_matches.Given as goal

abbrev pub invariant-loop-p : goal.invariant-loop-p
invariant-loop-p l = (length l.counts ≡ 8) × Counted l.frame.full l.frame.side l.grid l.counts l.p
