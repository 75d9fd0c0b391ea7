-- The words before r are added to the class.
-- Assumes nothing.
use Rattle.finite_field.specs.Field.{size_of}
use Rattle.evaluation.specs.Evaluation.{Placed}
use Rattle.evaluation.proofs.Folding.{adding}
use Rattle.evaluation.proofs.folds.add_chunk.Given as goal

abbrev pub invariant-loop-r : goal.invariant-loop-r
invariant-loop-r l =
    Placed (adding (size_of l.field.size) l.e l.from l.at l.initial.to l.into) l.into l.r l.initial.to l.to
