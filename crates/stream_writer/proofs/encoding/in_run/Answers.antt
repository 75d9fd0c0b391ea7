-- By the first set that has it.
-- Assumes nothing.
use Rattle.std.proofs.Common.{◌∙◌, sym, ap, not}
use Rattle.std.proofs.Math.Bool.{not-not}
use Rattle.stream_writer.proofs.Turns.{coded-by}
use Rattle.stream_writer.proofs.encoding.in_run.Goals as goal

pub returns : goal.returns
returns c = sym (ap not (coded-by c.args.b c.home_of.result c.home_of.ensures ∙ c.is_none.ensures) ∙ not-not c.is_none.result)
