-- The first b bits of the word stand at their places.
-- Assumes nothing.
use Rattle.std.proofs.Common.{◌≡◌, length, get_or}
use Rattle.list_laws.specs.Writes.{writes}
use Rattle.symbol.specs.Drawing.{bit_of}
use Rattle.drawing.proofs.draw_word.Given as goal

abbrev pub invariant-loop-b : goal.invariant-loop-b
invariant-loop-b l =
    (length l.grid ≡ length l.initial.grid) × (l.grid ≡ writes l.initial.grid (λ k. get_or l.places k 0) (bit_of (length l.places) l.word) l.b)
