-- The skipped bits and the first w words stand at their places.
-- Assumes nothing.
use Rattle.std.proofs.Common.{◌≡◌, ◌*◌, length}
use Rattle.drawing.proofs.WordTurns.{words_drawn}
use Rattle.drawing.proofs.draw_words.Given as goal

abbrev pub invariant-loop-w : goal.invariant-loop-w
invariant-loop-w l =
    (length l.grid ≡ length l.initial.grid) × (l.grid ≡ words_drawn l.size l.skip l.places l.words l.initial.grid (l.w * l.size))
