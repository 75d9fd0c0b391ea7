-- Horner's rule: before coefficient r - 1 the values have those from r on.
-- Assumes nothing.
use Rattle.std.proofs.Common.{◌≡◌, length}
use Rattle.finite_field.specs.Field.{size_of}
use Rattle.evaluation.proofs.Classes.{Finishing}
use Rattle.evaluation.proofs.folds.finish.Given as goal

abbrev pub invariant-loop-r : goal.invariant-loop-r
invariant-loop-r l =
    (length l.out ≡ length l.initial.out)
    × Finishing (size_of l.field.size) l.first l.m l.stride l.initial.r l.from (length l.initial.out) l.initial.out l.out l.r
