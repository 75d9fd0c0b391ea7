-- The words before i are those of the product; the others are as they were, and `above` is the one before place i.
-- Assumes nothing.
use Rattle.std.proofs.Common.{◌≡◌, length, take}
use Rattle.list_laws.specs.Filled.{filled}
use Rattle.finite_field.specs.Field.{size_of}
use Rattle.check_words.proofs.Generating.{rooting, carried}
use Rattle.check_words.proofs.add_root.Given as goal

abbrev pub invariant-loop-i : goal.invariant-loop-i
invariant-loop-i l =
    (length l.g ≡ length l.initial.g)
    × (l.above ≡ carried (size_of l.field.size) l.k l.m l.initial.g l.i)
    × (l.g ≡ filled (rooting (size_of l.field.size) l.k (take l.m l.initial.g)) l.i l.initial.g)
