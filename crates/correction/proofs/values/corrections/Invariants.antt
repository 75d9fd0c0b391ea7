-- The loop is Correcting's.
-- Assumes nothing.
use Rattle.finite_field.specs.Field.{size_of}
use Rattle.correction.proofs.Correcting.{Correcting}
use Rattle.correction.proofs.values.corrections.Given as goal

abbrev pub invariant-loop-i : goal.invariant-loop-i
invariant-loop-i l =
    Correcting (size_of l.field.size) l.n l.m l.g l.syndromes l.initial.places l.i l.places
