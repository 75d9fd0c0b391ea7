-- The exponent's remainder by the order of x has the same power.
-- Assumes nothing.
use Rattle.field.proofs.ByTables.{power_at}
use Rattle.field.proofs.Field.power.Goals as goal

pub returns : goal.returns
returns c = power_at c.args.self.now.tables c.args.k
