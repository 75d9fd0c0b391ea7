-- The loop has counted the words below w that were read and differ from those found.
-- Assumes nothing.
use Rattle.std.proofs.Common.{◌≡◌}
use Rattle.list_laws.specs.Range.{count}
use Rattle.walk.specs.Counts.{is_wrong}
use Rattle.walk.proofs.counts.count_wrong.Given as goal

abbrev pub invariant-loop-w : goal.invariant-loop-w
invariant-loop-w l = l.wrong ≡ count l.w (is_wrong l.received l.marks l.found)
