-- The words below k are in the values.
-- Assumes nothing.
use Rattle.std.proofs.Common.{length}
use Rattle.finite_field.specs.Field.{size_of}
use Rattle.evaluation.proofs.Direct.{Summing}
use Rattle.evaluation.proofs.exponents.direct.Given as goal

abbrev pub invariant-loop-k : goal.invariant-loop-k
invariant-loop-k l =
    Summing (size_of l.field.size) l.first l.from (length l.initial.out) l.initial.out l.out l.k
