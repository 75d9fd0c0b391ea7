-- Nothing is read: all the bits are left.
-- Assumes nothing.
use Rattle.std.proofs.Common.{arith, ◌-◌}
use Rattle.item_reader.specs.Places.{rest-start}
use Rattle.stream_reader.proofs.reader.Reader.new.Goals as goal

pub invariant_of-result : goal.invariant_of-result
invariant_of-result c =
    record {
      least = c.requires.least;
      most = c.requires.most;
      few = c.stream_length.ensures.upper_bound;
      counted = c.stream_length.ensures.value;
      within = omega arith;
      here = rest-start (c.args.word_size - 1) c.args.words.now;
      near = omega arith;
    }
