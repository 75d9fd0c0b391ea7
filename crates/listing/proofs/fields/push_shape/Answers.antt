-- A letter by the family, and a number of at most two digits.
-- Assumes nothing.
use Rattle.std.proofs.Common.{◌-◌, arith, append_assoc, lt-ltb, le-ltb}
use Rattle.listing.specs.DecimalLaws.{digits-most}
use Rattle.listing.specs.Line.{shape_name}
use Rattle.listing.proofs.fields.push_shape.Goals as goal

pub push_number-requires : goal.push_number-requires
push_number-requires c = omega (arith, digits-most 1 (c.args.shape - 4) (omega arith))

pub returns-then-shape-gt4-clause-put : goal.returns-then-shape-gt4-clause-put
unfolding shape_name
returns-then-shape-gt4-clause-put c =
    simp (lt-ltb _ _ c.if-shape-gt4.true, c.push_number.ensures.put, c.push-then-shape-gt4.ensures.put, c.push.ensures.put, append_assoc)

pub returns-then-shape-gt4-clause-upper_bound : goal.returns-then-shape-gt4-clause-upper_bound
returns-then-shape-gt4-clause-upper_bound c = omega (arith, digits-most 1 (c.args.shape - 4) (omega arith))

pub push_number-requires-2 : goal.push_number-requires-2
push_number-requires-2 c = omega (arith, digits-most 1 c.args.shape (omega arith))

pub returns-clause-put : goal.returns-clause-put
unfolding shape_name
returns-clause-put c = simp (le-ltb _ _ c.if-shape-gt4.false, c.push_number-2.ensures.put, c.push-2.ensures.put, c.push.ensures.put, append_assoc)

pub returns-clause-upper_bound : goal.returns-clause-upper_bound
returns-clause-upper_bound c = omega (arith, digits-most 1 c.args.shape (omega arith))
