-- The class after the last is the first.
-- Assumes nothing.
use Rattle.std.proofs.Common.{sym, ap, ◌∙◌, ◌+◌, ◌%◌, ◌<◌, mod-eq_of_lt, arith}
use native.Mathlib.Nat.{mod_self}
use Rattle.evaluation.proofs.folds.next_class.Goals as goal

pub returns-then-next-m : goal.returns-then-next-m
returns-then-next-m c =
    sym (ap (λ n. n % c.args.m) c.if-next-m.true ∙ mod_self c.args.m)

pub returns : goal.returns
returns c =
    let l : c.args.class + 1 < c.args.m = omega (arith, c.if-next-m.false) in sym (mod-eq_of_lt l)
