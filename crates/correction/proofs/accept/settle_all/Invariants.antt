-- The corrections below i are in the syndromes.
-- Assumes nothing.
use Rattle.std.proofs.Common.{length}
use Rattle.finite_field.specs.Field.{size_of}
use Rattle.correction.proofs.Settling.{SettlingAll}
use Rattle.correction.proofs.accept.settle_all.Given as goal

abbrev pub invariant-loop-i : goal.invariant-loop-i
invariant-loop-i l = SettlingAll (size_of l.field.size) l.n (length l.initial.s) l.corrections l.initial.s l.s l.i
