-- The words below i are read.
-- Assumes nothing.
use Rattle.std.proofs.Common.{◌≡◌, length}
use Rattle.reed_solomon.proofs.Reading.{Reading}
use Rattle.reed_solomon.proofs.corrector.read_block.Given as goal

abbrev pub invariant-loop-i : goal.invariant-loop-i
invariant-loop-i l =
    (length l.to ≡ length l.initial.to) × Reading l.words l.received l.marks l.i l.e l.to
