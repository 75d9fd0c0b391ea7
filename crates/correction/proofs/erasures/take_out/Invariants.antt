-- The places before j have the locator taken out; the others are as they were.
-- Assumes nothing.
use Rattle.std.proofs.Common.{◌≡◌, length}
use Rattle.list_laws.specs.Filled.{filled}
use Rattle.finite_field.specs.Field.{size_of}
use Rattle.correction.proofs.Sequences.{taking_out}
use Rattle.correction.proofs.erasures.take_out.Given as goal

abbrev pub invariant-loop-j : goal.invariant-loop-j
invariant-loop-j l = (length l.u ≡ length l.initial.u) × (l.u ≡ filled (taking_out (size_of l.field.size) l.k l.initial.u) l.j l.initial.u)
