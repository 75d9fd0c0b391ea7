-- The first i bytes are stored.
-- Assumes nothing.
use Rattle.std.proofs.Common.{◌≤◌}
use Rattle.item_reader.specs.Places.{rest}
use Rattle.stream_reader.proofs.Storing.{Stored}
use Rattle.stream_reader.proofs.message.write_raw.Given as goal

abbrev pub invariant-loop-i : goal.invariant-loop-i
invariant-loop-i l = Stored l.initial.message l.from (rest l.h l.words l.initial.next.word l.initial.next.bit) l.i l.message (rest l.h l.words l.next.word l.next.bit) × (l.i ≤ l.n)
