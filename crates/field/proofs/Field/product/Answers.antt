-- A word that is not 0 is a power of x, at its logarithm.
-- Assumes nothing.
use Rattle.std.proofs.Common.{sym, ap, ◌∙◌}
use Rattle.finite_field.specs.Field.{size_of, product}
use Rattle.finite_field.specs.FieldLaws.{product-zero-right}
use Rattle.field.proofs.Field.product.Goals as goal

pub returns-then-b-eq0 : goal.returns-then-b-eq0
returns-then-b-eq0 c =
    let size = size_of c.args.self.now.size in
    sym (ap (product size c.args.a) c.if-b-eq0.true ∙ product-zero-right size c.args.a)
