-- The tables lent are those of the size.
-- Assumes nothing.
use Rattle.finite_field.specs.Field.{size_of}
use Rattle.finite_field.specs.Tables.{tables-of}
use Rattle.field.proofs.Field.of_size.Goals as goal

pub invariant_of-result : goal.invariant_of-result
invariant_of-result c =
    record { tables = tables-of (size_of c.args.size) c.powers.ensures c.logs.ensures }
