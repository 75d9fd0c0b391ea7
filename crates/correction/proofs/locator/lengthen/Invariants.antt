-- The places from j on hold their new coefficients, the others are as they were.
-- Assumes nothing.
use Rattle.std.proofs.Common.{get_or}
use Rattle.finite_field.specs.Field.{size_of}
use Rattle.list_laws.specs.Downward.{Between}
use Rattle.correction.proofs.Combining.{combined}
use Rattle.correction.proofs.locator.lengthen.Given as goal

abbrev pub invariant-loop-j : goal.invariant-loop-j
invariant-loop-j l =
    (Between (combined (size_of l.field.size) l.d l.initial.q l.b l.shift l.initial.p) l.j l.count l.initial.p l.p × Between (λ i. get_or l.initial.p i 0) l.j l.count l.initial.q l.q)
