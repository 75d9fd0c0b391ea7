-- The loop is Gathering's.
-- Assumes nothing.
use Rattle.std.proofs.Common.{◌≡◌, length}
use Rattle.finite_field.specs.Field.{size_of}
use Rattle.correction.proofs.Gathering.{Gathering}
use Rattle.correction.proofs.values.gather.Given as goal

abbrev pub invariant-loop-i : goal.invariant-loop-i
invariant-loop-i l =
    (length l.places ≡ length l.initial.places)
    × (length l.g ≡ length l.initial.g)
    × Gathering (size_of l.field.size) l.degree l.p l.marks l.i l.m l.places l.g
