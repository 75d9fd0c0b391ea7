-- Only positions 1 and 3 are not their own inverses.
-- Assumes nothing.
use Rattle.std.proofs.Common.{sym, ap, arith}
use Rattle.symbol.specs.Positions.{back}
use Rattle.round_trip.specs.Placing.{back-own}
use Rattle.round_trip.proofs.shown.back_of.Goals as goal

pub returns-in-1 : goal.returns-in-1
unfolding back
returns-in-1 c = ap back (sym c.in-1.is)

pub returns-in-3 : goal.returns-in-3
unfolding back
returns-in-3 c = ap back (sym c.in-3.is)

pub returns-in_default : goal.returns-in_default
returns-in_default c = back-own _ (λ e. omega arith) (λ e. omega arith)
