-- The bits of the code above the lowest i are written.
-- Assumes nothing.
use Rattle.std.proofs.Common.{◌≡◌, ◌+◌, ◌≤◌, length}
use Rattle.stream_writer.specs.Writing.{Sent}
use Rattle.stream_writer.proofs.stuffing.put_code.Given as goal

abbrev pub invariant-loop-i : goal.invariant-loop-i
invariant-loop-i l =
    (l.i ≤ l.width) × (l.n + l.i ≤ l.initial.n + l.width) × (length l.words ≡ length l.initial.words)
    × Sent l.h l.width l.code l.initial.n l.initial.k l.initial.v l.initial.words l.i l.n l.k l.v l.words
