-- The value and the mark of the modules so far.
-- Assumes nothing.
use Rattle.std.proofs.Common.{◌≡◌}
use Rattle.symbol.specs.GridWords.{value, unread}
use Rattle.sampling.specs.Sampled.{tabled}
use Rattle.sampling.proofs.words.read_word.Given as goal

abbrev pub invariant-loop-place : goal.invariant-loop-place
invariant-loop-place l =
    (l.value ≡ value l.place-index (tabled l.places l.upright)) × (l.mark ≡ unread l.place-index (tabled l.places l.upright))
