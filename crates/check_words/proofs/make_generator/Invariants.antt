-- The generator of the first k roots stands in front; the rest is as it was.
-- Assumes nothing.
use Rattle.std.proofs.Common.{◌≡◌, length}
use Rattle.finite_field.specs.Field.{size_of}
use Rattle.check_words.proofs.Generating.{generating}
use Rattle.check_words.proofs.make_generator.Given as goal

abbrev pub invariant-loop-k : goal.invariant-loop-k
invariant-loop-k l = (length l.g ≡ length l.initial.g) × (l.g ≡ generating (size_of l.field.size) l.initial.g l.k)
