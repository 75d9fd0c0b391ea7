-- The correction times 2^k, by its exponent, is what the first syndrome gets.
-- Assumes nothing.
use Rattle.std.proofs.Common.{length}
use Rattle.finite_field.specs.Field.{size_of}
use Rattle.correction.proofs.Settling.{settled-by}
use Rattle.correction.proofs.accept.settle.Goals as goal

pub exponent-start-requires : goal.exponent-start-requires
exponent-start-requires c =
    record {
      word = c.requires.word;
      positive = c.requires.positive;
      k_bound = c.requires.k_bound;
    }

pub add_powers-requires : goal.add_powers-requires
add_powers-requires c =
    record {
      start_bound = c.exponent-start.ensures.bound;
      step_bound = c.requires.k_bound;
      words = c.requires.words;
    }

pub returns : goal.returns
returns c =
    settled-by (size_of c.args.field.now.size) c.args.correction c.args.k (length c.args.s.now) _ _ _ c.requires.word c.exponent-start.ensures.power c.add_powers.ensures
