-- The message fits, whatever the answer.
use Rattle.std.proofs.Common.{arith}
use Rattle.read_tag.specs.TextLaws.{message-fits}
use Rattle.read_tag.proofs.read_bytes.Goals as goal

pub say-requires : goal.say-requires
say-requires g c = omega (arith, message-fits c.args.bytes.now c.args.message.now c.in-Some.answer c.in-Some.ensures.value)
