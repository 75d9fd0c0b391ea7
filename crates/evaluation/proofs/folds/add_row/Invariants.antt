-- The values before j have the coefficient of their class; class is that of first + j.
-- Assumes nothing.
use Rattle.std.proofs.Common.{◌≡◌, ◌+◌, ◌%◌, length}
use Rattle.list_laws.specs.Filled.{filled}
use Rattle.finite_field.specs.Field.{size_of}
use Rattle.evaluation.proofs.Folding.{rowing}
use Rattle.evaluation.proofs.folds.add_row.Given as goal

abbrev pub invariant-loop-j : goal.invariant-loop-j
invariant-loop-j l =
    (l.class ≡ (l.first + l.j) % l.m)
    × (length l.out ≡ length l.initial.out)
    × (l.out ≡ filled (rowing (size_of l.field.size) l.first l.m l.stride l.r l.from l.initial.out) l.j l.initial.out)
