-- The loop is Dividing's.
-- Assumes nothing.
use Rattle.finite_field.specs.Field.{size_of}
use Rattle.correction.proofs.Dividing.{Dividing}
use Rattle.correction.proofs.values.correction.Given as goal

abbrev pub invariant-loop-j : goal.invariant-loop-j
invariant-loop-j l =
    Dividing (size_of l.field.size) l.g l.syndromes l.m l.k l.j l.quotient l.numerator l.slope
