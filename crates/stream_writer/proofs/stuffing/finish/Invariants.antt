-- The last word has some 1s; what is left to fill falls.
-- Assumes nothing.
use Rattle.std.proofs.Common.{◌≡◌, ◌+◌, ◌*◌, ◌-◌, ◌≤◌, min, length}
use Rattle.stream_writer.specs.Writing.{Ending}
use Rattle.stream_writer.proofs.stuffing.finish.Given as goal

abbrev pub invariant-loop-k : goal.invariant-loop-k
invariant-loop-k l =
    (l.n + min l.k 1 ≤ l.initial.n + 1) × (length l.words ≡ length l.initial.words) × Ending l.h l.initial.n l.initial.k l.initial.v l.initial.words l.n l.k l.v l.words

abbrev pub decreases-loop-k : goal.decreases-loop-k
decreases-loop-k l = min (l.h + 1 - l.k) (12 * l.k)
