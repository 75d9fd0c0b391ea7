-- The message is written as far as byte i.
-- Assumes nothing.
use Rattle.std.proofs.Common.{◌≡◌, ◌-◌, length}
use Rattle.stream.specs.Codes.{set_number}
use Rattle.stream_writer.specs.Encoding.{Written}
use Rattle.stream_writer.proofs.encoding.write_words.Given as goal

abbrev pub invariant-loop-i : goal.invariant-loop-i
invariant-loop-i l =
    (length l.words ≡ length l.initial.words) × Written l.h l.message l.initial.words l.i (set_number l.set) l.out l.words

abbrev pub decreases-loop-i : goal.decreases-loop-i
decreases-loop-i l = length l.message - l.i
