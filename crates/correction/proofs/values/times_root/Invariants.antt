-- From the top down each coefficient takes the one below it, which is still the old one; the lowest takes none.
-- Assumes nothing.
use Rattle.std.proofs.Common.{◌+◌}
use Rattle.list_laws.specs.Downward.{Between}
use Rattle.finite_field.specs.Field.{size_of}
use Rattle.correction.proofs.Rooting.{raised}
use Rattle.correction.proofs.values.times_root.Given as goal

abbrev pub invariant-loop-j : goal.invariant-loop-j
invariant-loop-j l =
    Between (raised (size_of l.field.size) l.k l.initial.g) (l.j + 1) (l.m + 2) l.initial.g l.g
