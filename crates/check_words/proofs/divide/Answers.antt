-- The first i words are divided; the remainder is lent to each step and comes back.
-- Assumes nothing.
use Rattle.std.proofs.Common.{rules, ◌≡◌, ap, ◌∙◌, arith}
use Rattle.finite_field.specs.Field.{size_of}
use Rattle.check_words.proofs.Remaindering.{dividing, dividing-none, dividing-all, Turn, dividing-turn}
use Rattle.check_words.proofs.divide.Goals as goal
use Rattle.check_words.proofs.divide.Goals.{In-loop-i, Start}

abbrev start : In-loop-i → Start
start c = (goal.at.In-loop-i c).Start

turn : (c : In-loop-i)
    → let a = (start c).args in
    Turn (size_of a.field.now.size) a.g.now a.data_words a.block.now c.loop-i.i c.loop-i.block
turn c =
    let s = start c in
    dividing-turn (size_of s.args.field.now.size) s.args.g.now s.args.data_words s.args.block.now s.requires.g_words s.requires.block_words
    s.requires.data_words_in_bounds_1 s.requires.data_words_in_bounds_2 c.loop-i.i (search rules) c.loop-i.invariant.1

pub loop-i-init : goal.loop-i-init
loop-i-init c =
    let a = c.args in
    (search rules, dividing-none (size_of a.field.now.size) a.g.now a.data_words a.block.now)

pub divide_step-requires : goal.divide_step-requires
divide_step-requires c =
    let t = turn (goal.at.divide_step-requires c).In-loop-i in
    let s = start (goal.at.divide_step-requires c).In-loop-i in record {
      g_words = s.requires.g_words;
      word_1 = t.word;
      word_2 = t.words;
      tail_len_1 = t.size;
      tail_len_2 = omega arith;
    }

pub loop-i-preserved : goal.loop-i-preserved
loop-i-preserved c = (search rules, (turn (goal.at.loop-i-preserved c).In-loop-i).next c.divide_step.ensures)

pub returns : goal.returns
returns c =
    let a = c.args in
    let done : c.loop-i.i ≡ a.data_words = omega arith in
    c.loop-i.invariant.1
    ∙ ap (dividing (size_of a.field.now.size) a.g.now a.data_words a.block.now) done
    ∙ dividing-all (size_of a.field.now.size) a.g.now a.data_words a.block.now
