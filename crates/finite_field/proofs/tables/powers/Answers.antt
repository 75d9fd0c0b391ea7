-- Each arm lends the table of its size, entry by entry, by computation; the last arm's size is 12.
-- Assumes nothing.
use Rattle.std.proofs.Common.{sym, ap, ℕ, arith}
use Rattle.finite_field.specs.Field.{times_x, size_of}
use Rattle.finite_field.specs.Tables.{powers}
use Rattle.finite_field.proofs.Sizes.{last-size}
use Rattle.finite_field.proofs.tables.powers.Goals as goal

pub returns-in-4 : goal.returns-in-4
unfolding times_x powers
returns-in-4 c = sym (ap (λ (n : ℕ). powers (size_of n)) c.in-4.is)

pub returns-in-6 : goal.returns-in-6
unfolding times_x powers
returns-in-6 c = sym (ap (λ (n : ℕ). powers (size_of n)) c.in-6.is)

pub returns-in-8 : goal.returns-in-8
unfolding times_x powers
returns-in-8 c = sym (ap (λ (n : ℕ). powers (size_of n)) c.in-8.is)

pub returns-in-10 : goal.returns-in-10
unfolding times_x powers
returns-in-10 c = sym (ap (λ (n : ℕ). powers (size_of n)) c.in-10.is)

pub returns-in_default : goal.returns-in_default
unfolding times_x powers
returns-in_default c = sym (ap powers (last-size c.args.size (omega arith) (omega arith) (omega arith) (omega arith)))
