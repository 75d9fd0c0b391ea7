-- A number below 2^32 has at most ten digits.
-- Assumes nothing.
use Rattle.std.proofs.Common.{arith}
use Rattle.listing.specs.DecimalLaws.{digits-most}
use Rattle.listing.proofs.fields.push_value.Goals as goal

pub push_number-requires : goal.push_number-requires
push_number-requires c = omega (arith, digits-most 9 c.args.n (omega arith))

pub returns-clause-upper_bound : goal.returns-clause-upper_bound
returns-clause-upper_bound c = omega (arith, digits-most 9 c.args.n (omega arith))
