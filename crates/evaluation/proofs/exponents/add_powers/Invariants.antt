-- The words before j have their power; e is the exponent of the next.
-- Assumes nothing.
use Rattle.finite_field.specs.Field.{size_of}
use Rattle.evaluation.proofs.Adding.{AddingPowers}
use Rattle.evaluation.proofs.exponents.add_powers.Given as goal

abbrev pub invariant-loop-j : goal.invariant-loop-j
invariant-loop-j l =
    AddingPowers (size_of l.field.size) l.start l.k l.initial.s l.s l.e l.j
