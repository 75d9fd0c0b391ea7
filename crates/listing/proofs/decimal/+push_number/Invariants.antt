-- Each call passes a number with a digit less.
-- Assumes nothing.
use Rattle.listing.proofs.decimal.+push_number.Given as goal

abbrev pub decreases-push_number : goal.decreases-push_number
decreases-push_number l = l.n
