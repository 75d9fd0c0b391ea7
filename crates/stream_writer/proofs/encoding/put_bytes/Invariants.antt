-- The bytes before the loop's index are written.
-- Assumes nothing.
use Rattle.std.proofs.Common.{◌≡◌, length, take}
use Rattle.stream.specs.Stream.{bytes_bits}
use Rattle.stream_writer.specs.Writing.{Wrote}
use Rattle.stream_writer.proofs.encoding.put_bytes.Given as goal

abbrev pub invariant-loop-byte : goal.invariant-loop-byte
invariant-loop-byte l =
    (length l.words ≡ length l.initial.words)
    × Wrote l.h (bytes_bits (take l.byte-index l.byte-items)) l.initial.last l.initial.words l.last l.words
