-- The first i words are divided; the remainder is lent to each step and comes back.
-- Assumes nothing.
use Rattle.std.proofs.Common.{◌≡◌, length}
use Rattle.finite_field.specs.Field.{size_of}
use Rattle.check_words.proofs.Remaindering.{dividing}
use Rattle.check_words.proofs.divide.Given as goal

abbrev pub invariant-loop-i : goal.invariant-loop-i
invariant-loop-i l = (length l.block ≡ length l.initial.block) × (l.block ≡ dividing (size_of l.field.size) l.g l.data_words l.initial.block l.i)
