-- The digits before the last one, and then that.
-- Assumes nothing.
use Rattle.std.proofs.Common.{sym, ap, ◌∙◌, arith, ◌+◌, ◌/◌, ◌%◌, ◌++◌, ◌∷◌, [], append_assoc, rules}
use native.Mathlib.Nat.{div-lt_self}
use Rattle.listing.specs.Decimal.{digit, decimal}
use Rattle.listing.specs.DecimalLaws.{decimal-small, decimal-more, length-small, length_more}
use Rattle.listing.proofs.decimal.+push_number.Goals as goal

pub push-requires : goal.push-requires
push-requires t c = omega (arith, length-small c.args.n (omega arith))

pub returns-then-n-lt10 : goal.returns-then-n-lt10
unfolding digit
returns-then-n-lt10 t c = record {
  put = c.push.ensures.put ∙ ap (λ d. c.args.line.now ++ d) (sym (decimal-small c.args.n (omega arith)));
  length = omega (arith, length-small c.args.n (omega arith));
}

pub push_number-requires : goal.push_number-requires
push_number-requires t c = (search (rules, div-lt_self {n = c.args.n} {k = 10}), omega (arith, length_more c.args.n (omega arith)))

pub push-requires-2 : goal.push-requires-2
push-requires-2 t c = omega (arith, length_more c.args.n (omega arith))

pub returns : goal.returns
unfolding digit
returns t c = record {
  put =
      c.push-2.ensures.put
      ∙ ap (λ l. l ++ (48 + c.args.n % 10) ∷ []) c.push_number.ensures.put
      ∙ append_assoc c.args.line.now (decimal (c.args.n / 10)) ((48 + c.args.n % 10) ∷ [])
      ∙ ap (λ d. c.args.line.now ++ d) (sym (decimal-more c.args.n (omega arith)));
  length = omega (arith, length_more c.args.n (omega arith));
}
