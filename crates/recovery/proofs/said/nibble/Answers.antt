-- The word, by the premise on the first four.
-- Assumes nothing.
use Rattle.std.proofs.Common.{refl}
use Rattle.recovery.proofs.said.nibble.Goals as goal

pub returns : goal.returns
returns c = (refl, c.requires.fact_2 c.args.i c.requires.fact_3)
