-- The classes below c are made; class is that of c.
-- Assumes nothing.
use Rattle.std.proofs.Common.{◌≡◌, ◌%◌, length}
use Rattle.finite_field.specs.Field.{size_of}
use Rattle.evaluation.proofs.Classes.{FoldedInto}
use Rattle.evaluation.proofs.folds.fold.Given as goal

abbrev pub invariant-loop-c : goal.invariant-loop-c
invariant-loop-c l =
    (l.class ≡ l.c % l.m) × (length l.to ≡ length l.initial.to) × FoldedInto (size_of l.field.size) l.m l.per l.part l.chunks l.from l.c l.to
