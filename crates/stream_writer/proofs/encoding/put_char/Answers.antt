-- The latches and the code, one after the other.
-- Assumes nothing.
use Rattle.std.proofs.Common.{arith, ap₂, ◌++◌, sym}
use Rattle.stream.specs.Bits.{bits}
use Rattle.stream.specs.Codes.{set_number}
use Rattle.stream.specs.CodeLaws.{width-bounds}
use Rattle.stream_writer.specs.Writing.{coded-then}
use Rattle.stream_writer.proofs.Turns.{bits-count, coded-as}
use Rattle.stream_writer.proofs.encoding.put_char.Goals as goal

pub put_code-requires : goal.put_code-requires
put_code-requires c =
    let path = c.latch-path in
    let few = bits-count path.result.bits path.result.code c.requires.0 c.put_code-latched.ensures in record {
      fact_1 = (c.requires.0, c.requires.1, omega (arith, few, path.ensures), c.put_code-latched.ensures.state);
      fact_2 = omega (arith, c.width_of.ensures, width-bounds (set_number c.args.target));
    }

pub returns : goal.returns
returns c =
    coded-as (ap₂ (λ l w. l ++ bits w c.args.code) (sym c.latch-path.ensures.to_value) c.width_of.ensures)
    (coded-then c.put_code-latched.ensures c.put_code.ensures)
