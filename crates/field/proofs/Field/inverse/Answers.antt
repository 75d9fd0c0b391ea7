-- The inverse of x ^ k is x to the order less k.
-- Assumes nothing.
use Rattle.std.proofs.Common.{rules, sym, ap, ◌∙◌}
use Rattle.finite_field.specs.Field.{size_of, inverse}
use Rattle.finite_field.specs.FieldLaws.{inverse-zero}
use Rattle.field.proofs.ByTables.{inverse-at}
use Rattle.field.proofs.Field.inverse.Goals as goal

pub returns-then-a-eq0 : goal.returns-then-a-eq0
returns-then-a-eq0 c =
    let size = size_of c.args.self.now.size in
    sym (ap (inverse size) c.if-a-eq0.true ∙ inverse-zero size)

pub returns : goal.returns
returns c = inverse-at c.args.self.now.tables c.requires c.if-a-eq0.false (search rules)
