-- Horner's rule: before chunk k - 1 the class has the chunks from k on.
-- Assumes nothing.
use Rattle.finite_field.specs.Field.{size_of}
use Rattle.evaluation.proofs.Classes.{FoldingClass}
use Rattle.evaluation.proofs.folds.fold_class.Given as goal

abbrev pub invariant-loop-k : goal.invariant-loop-k
invariant-loop-k l =
    FoldingClass (size_of l.field.size) l.part l.chunks l.from l.at l.into l.initial.to l.to l.k
