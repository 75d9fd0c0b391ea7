-- What the loop keeps gives what the calls ask, and what they leave is one of algebra's three steps.
-- Assumes nothing.
use Rattle.std.proofs.Common.{arith}
use Rattle.finite_field.specs.Field.{size_of}
use Rattle.correction.proofs.Turn.{discrepancy-word, turn-annihilates, turn-kept, turn-lengthened}
use Rattle.correction.proofs.locator.step.Goals as goal

pub dot-d-requires : goal.dot-d-requires
dot-d-requires c =
    let pre = c.requires in
    let v = pre.locating in record {
      p_words = v.p-words;
      u_words = pre.words;
      count_in_bounds_1 = omega (arith, v.locating.L-le);
      count_in_bounds_2 = omega (arith, v.locating.L-le);
    }

pub returns-then-d-eq0 : goal.returns-then-d-eq0
returns-then-d-eq0 c =
    record {
      locating_2 = turn-annihilates (size_of c.args.field.now.size) c.requires.locating c.dot-d.ensures c.if-d-eq0.true;
      place_value = omega arith;
    }

pub keep_length-requires : goal.keep_length-requires
keep_length-requires c =
    let v = c.requires.locating in record {
      b_word = v.scale-word;
      d_word = discrepancy-word (size_of c.args.field.now.size) v c.dot-d.ensures;
      words_1 = v.p-words;
      words_2 = v.q-words;
      words_3 = omega arith;
      words_4 = omega arith;
    }

pub returns-then-place-length : goal.returns-then-place-length
returns-then-place-length c =
    record {
      locating_2 = turn-kept (size_of c.args.field.now.size) c.requires.locating c.dot-d.ensures
          _ (omega arith) c.keep_length.ensures;
      place_value = omega arith;
    }

pub lengthen-requires : goal.lengthen-requires
lengthen-requires c =
    let v = c.requires.locating in record {
      b_word = v.scale-word;
      d_word = discrepancy-word (size_of c.args.field.now.size) v c.dot-d.ensures;
      shifted = omega arith;
      words_1 = v.p-words;
      words_2 = v.q-words;
      words_3 = omega arith;
      words_4 = omega arith;
    }

pub returns : goal.returns
returns c =
    record {
      locating_2 = turn-lengthened (size_of c.args.field.now.size) c.requires.locating
          c.dot-d.ensures
          _ (omega arith) c.requires.t_in_bounds_3 c.if-d-eq0.false c.lengthen.ensures;
      place_value = omega arith;
    }
