-- The exponent of the word, and k more, turned over.
-- Assumes nothing.
use Rattle.std.proofs.Common.{rules, get_or, ◌≡◌, ap, ◌∙◌, ◌≢◌, ℕ, ◌^◌, ◌<◌, arith}
use Rattle.finite_field.specs.Field.{size_of, bits, product, power}
use Rattle.field.specs.Turned.{turned_lt, product_turned}
use Rattle.field.proofs.ByTables.{log-word, power-of-log}
use Rattle.evaluation.proofs.exponents.exponent.Goals as goal

pub turned-requires : goal.turned-requires
turned-requires c =
    let ne : c.args.w ≢ 0 = λ e. omega arith in
    let is : c.from-e.result ≡ get_or c.args.field.now.logs.now c.args.w 0 = search rules in
    let e-lt = log-word c.args.field.now.tables c.requires.word ne is in record {
      fact_1 = c.args.field.now.tables.exp-length;
      fact_2 = omega arith;
      fact_3 = omega (arith, c.args.field.now.tables.exp-length);
    }

pub returns : goal.returns
returns c =
    let e = c.from-e.result in
    let turned = c.turned in
    let tables = c.args.field.now.tables in
    let size = size_of c.args.field.now.size in
    let ne : c.args.w ≢ 0 = λ e. omega arith in
    let is : e ≡ get_or c.args.field.now.logs.now c.args.w 0 = search rules in
    let e-lt : e < 2 ^ bits size = omega (arith, log-word tables c.requires.word ne is, tables.exp-length) in record {
      bound = omega (arith, turned.ensures, turned_lt size e-lt c.requires.k_bound);
      power = ap (power size) turned.ensures
          ∙ product_turned size e c.args.k
          ∙ ap (λ (z : ℕ). product size z (power size c.args.k)) (power-of-log tables c.requires.word ne is);
    }
