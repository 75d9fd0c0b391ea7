-- The sum so far is the dot product of the terms passed.
-- Assumes nothing.
use Rattle.std.proofs.Common.{◌≡◌}
use Rattle.algebra.specs.KeyEquation as key
use Rattle.finite_field.specs.Field.{size_of}
use Rattle.finite_field.specs.Instance.{word_field, entry, number}
use Rattle.correction.proofs.locator.dot.Given as goal

abbrev pub invariant-loop-j : goal.invariant-loop-j
invariant-loop-j l =
    (l.sum ≡ number (size_of l.field.size) (key.dot (word_field (size_of l.field.size)) l.j (entry (size_of l.field.size) l.p) (entry (size_of l.field.size) l.u) l.at))
