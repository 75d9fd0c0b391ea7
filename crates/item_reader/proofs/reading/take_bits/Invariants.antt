-- All but `left` of the n bits are taken; a turn takes what a word has left of them, or passes to the next word.
-- Assumes nothing.
use Rattle.std.proofs.Common.{◌+◌, ◌-◌, ◌≤◌, length}
use Rattle.item_reader.specs.Places.{rest, Taken}
use Rattle.item_reader.proofs.reading.take_bits.Given as goal

abbrev pub invariant-loop-left : goal.invariant-loop-left
invariant-loop-left l = Taken (rest l.h l.words l.initial.word l.initial.bit) (l.n - l.left) l.value (rest l.h l.words l.word l.bit) × (l.left ≤ l.n)

abbrev pub decreases-loop-left : goal.decreases-loop-left
decreases-loop-left l = l.left + (length l.words - l.word)
