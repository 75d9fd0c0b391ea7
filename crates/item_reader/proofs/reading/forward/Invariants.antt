-- A word that is passed whole takes its stream bits from the bits to go.
-- Assumes nothing.
use Rattle.std.proofs.Common.{◌≡◌, ◌-◌, ◌≤◌, length}
use Rattle.item_reader.specs.Places.{rest}
use Rattle.item_reader.proofs.reading.forward.Given as goal

abbrev pub invariant-loop-word : goal.invariant-loop-word
invariant-loop-word l = (rest l.h l.words l.word l.bit ≡ rest l.h l.words l.initial.word l.initial.bit) × (l.bit ≤ 1048592)

abbrev pub decreases-loop-word : goal.decreases-loop-word
decreases-loop-word l = length l.words - l.word
