-- The first w words and marks are written.
-- Assumes nothing.
use Rattle.std.proofs.Common.{◌≡◌, length}
use Rattle.list_laws.specs.Filled.{filled}
use Rattle.symbol.specs.GridWords.{value, unread}
use Rattle.sampling.specs.Sampled.{table_module}
use Rattle.sampling.proofs.words.read_words.Given as goal

abbrev pub invariant-loop-w : goal.invariant-loop-w
invariant-loop-w l =
    (length l.words ≡ length l.initial.words) × (length l.marks ≡ length l.initial.marks)
    × (l.words ≡ filled (λ w. value l.size (table_module l.size l.skip l.places l.upright w)) l.w l.initial.words)
    × (l.marks ≡ filled (λ w. unread l.size (table_module l.size l.skip l.places l.upright w)) l.w l.initial.marks)
