-- The product by the sum of the exponents, turned over at the order.
-- Assumes nothing.
use Rattle.std.proofs.Common.{rules, sym, ap, ◌∙◌, ℕ, arith}
use Rattle.finite_field.specs.Field.{size_of, product, power}
use Rattle.finite_field.specs.FieldLaws.{product-zero-left}
use Rattle.field.proofs.ByTables.{within, at_sum}
use Rattle.field.proofs.Field.times_power.Goals as goal

pub returns-then-a-eq0 : goal.returns-then-a-eq0
returns-then-a-eq0 c =
    let size = size_of c.args.self.now.size in
    sym (ap (λ (x : ℕ). product size x (power size c.args.k)) c.if-a-eq0.true ∙ product-zero-left size (power size c.args.k))

pub offset_bounds-self-turned : goal.offset_bounds-self-turned
offset_bounds-self-turned c =
    omega
    (arith, within c.args.self.now.tables c.requires.word c.requires.k_bound c.if-a-eq0.false (search rules) c.turned.ensures)

pub bounds-self-turned : goal.bounds-self-turned
bounds-self-turned c =
    within c.args.self.now.tables c.requires.word c.requires.k_bound c.if-a-eq0.false (search rules) c.turned.ensures

pub returns : goal.returns
returns c =
    at_sum c.args.self.now.tables c.requires.word c.requires.k_bound c.if-a-eq0.false (search rules) c.turned.ensures
