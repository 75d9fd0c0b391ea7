-- The places passed hold their new coefficients, the others are as they were.
-- Assumes nothing.
use Rattle.std.proofs.Common.{◌≡◌, length}
use Rattle.list_laws.specs.Filled.{filled}
use Rattle.finite_field.specs.Field.{size_of}
use Rattle.correction.proofs.Combining.{combined}
use Rattle.correction.proofs.locator.keep_length.Given as goal

abbrev pub invariant-loop-j : goal.invariant-loop-j
invariant-loop-j l =
    ((length l.p ≡ length l.initial.p) × (l.p ≡ filled (combined (size_of l.field.size) l.b l.initial.p l.d l.shift l.q) l.j l.initial.p))
