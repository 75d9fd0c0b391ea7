-- The marked places among the first i are taken out.
-- Assumes nothing.
use Rattle.std.proofs.Common.{◌≡◌, length}
use Rattle.finite_field.specs.Field.{size_of}
use Rattle.correction.proofs.Sequences.{TakenOut}
use Rattle.correction.proofs.erasures.erase.Given as goal

abbrev pub invariant-loop-i : goal.invariant-loop-i
invariant-loop-i l = (length l.u ≡ length l.initial.u) × TakenOut (size_of l.field.size) l.count l.marks l.initial.u l.i l.u
