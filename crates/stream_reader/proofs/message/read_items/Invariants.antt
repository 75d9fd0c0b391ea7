-- The bits before `at` are read to as many bytes.
-- Assumes nothing.
use Rattle.std.proofs.Common.{◌≡◌, ◌-◌}
use Rattle.stream.specs.Codes.{set_number}
use Rattle.stream.specs.Stuffing.{unstuff_from}
use Rattle.stream_reader.specs.Scan.{Counted}
use Rattle.stream_reader.proofs.message.read_items.Given as goal

abbrev pub invariant-loop-item : goal.invariant-loop-item
invariant-loop-item l =
    Counted l.word_size (unstuff_from (l.word_size - 1) l.words) l.reader.at (set_number l.reader.set) l.length
    × (l.reader.words.now ≡ l.words) × (l.reader.word_size ≡ l.word_size)

abbrev pub decreases-loop-item : goal.decreases-loop-item
decreases-loop-item l = l.reader.total - l.reader.at
