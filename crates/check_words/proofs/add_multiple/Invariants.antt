-- The places before i have the multiple added; the others are as they were.
-- Assumes nothing.
use Rattle.std.proofs.Common.{◌≡◌, length}
use Rattle.list_laws.specs.Filled.{filled}
use Rattle.finite_field.specs.Field.{size_of}
use Rattle.check_words.proofs.Remaindering.{adding}
use Rattle.check_words.proofs.add_multiple.Given as goal

abbrev pub invariant-loop-i : goal.invariant-loop-i
invariant-loop-i l = (length l.tail ≡ length l.initial.tail) × (l.tail ≡ filled (adding (size_of l.field.size) l.g l.k l.initial.tail) l.i l.initial.tail)
