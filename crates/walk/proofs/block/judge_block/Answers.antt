-- The verdict is of the reading that the definition has.
-- Assumes nothing.
use Rattle.std.proofs.Common.{◌≡◌, sym, List, ℕ, ◌≤◌, arith, length, take, length-take-le}
use Rattle.symbol.specs.Shapes.{word-size-range}
use Rattle.encoder.specs.EncodeLaws.{words-all}
use Rattle.walk.proofs.block.judge_block.Goals as goal
use Rattle.walk.proofs.block.judge_block.Goals.{Start}

abbrev words : Start → List ℕ
words a = take a.args.layout.data_words a.args.found.now

held : (a : Start) → a.args.layout.data_words ≤ length a.args.found.now
held a = omega (arith, a.requires, a.args.layout.checked)

length-words : (a : Start) → length (words a) ≡ a.args.layout.data_words
length-words a = length-take-le a.args.layout.data_words a.args.found.now (held a)

pub slice_bounds-judge-end : goal.slice_bounds-judge-end
slice_bounds-judge-end c = sym (length-words (goal.at.slice_bounds-judge-end c).Start)

pub judge-requires : goal.judge-requires
judge-requires c =
    let a = (goal.at.judge-requires c).Start in
    let s = c.args.layout.shape in
    let e = c.word_size-size.ensures in
    let r = word-size-range s.layers in record {
      fact_1 = omega (arith, e, r);
      fact_2 = omega (arith, e, r);
      fact_3 = omega (arith, length-words a, held a, a.requires, words-all s.full s.layers s.shaped);
    }
