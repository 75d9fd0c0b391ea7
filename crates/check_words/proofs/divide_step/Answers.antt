-- What leaves is 0, and the remainder is only moved up, or a power of x at its logarithm.
-- Assumes nothing.
use Rattle.std.proofs.Common.{rules, ◌-◌, ◌<◌, arith, length}
use Rattle.finite_field.specs.Field.{size_of, Word}
use Rattle.block_code.specs.CheckWords.{factor}
use Rattle.field.proofs.ByTables.{log-word, power-of-log}
use Rattle.evaluation.proofs.Elements.{xor-word}
use Rattle.check_words.proofs.Remaindering.{step-of-zero, step-of-power}
use Rattle.check_words.proofs.divide_step.Goals as goal
use Rattle.check_words.proofs.divide_step.Goals.{Else-factor-eq0, Start}

abbrev start : Else-factor-eq0 → Start
start c = (goal.at.Else-factor-eq0 c).Start

leaving-word : (c : Else-factor-eq0) → Word (size_of (start c).args.field.now.size) (factor (start c).args.tail.now (start c).args.word)
leaving-word c = xor-word (size_of (start c).args.field.now.size) (start c).requires.word_1 ((start c).requires.word_2 0)

pub returns-then-factor-eq0 : goal.returns-then-factor-eq0
returns-then-factor-eq0 c =
    step-of-zero (size_of c.args.field.now.size) c.args.g.now c.args.tail.now c.args.word c.requires.tail_len_1
    c.move_up.ensures c.if-factor-eq0.true

pub bounds-field-from : goal.bounds-field-from
bounds-field-from c =
    let e = (goal.at.bounds-field-from c).Else-factor-eq0 in
    omega (arith, leaving-word e, (start e).args.field.now.tables.log-length)

pub add_multiple-requires : goal.add_multiple-requires
add_multiple-requires c =
    let e = (goal.at.add_multiple-requires c).Else-factor-eq0 in
    let s = start e in
    let tables = s.args.field.now.tables in
    let log : c.from-k.result < length s.args.field.now.powers.now - 1
    = log-word tables (leaving-word e) e.if-factor-eq0.false (search rules) in record {
      words = s.requires.g_words;
      k_bound = omega (arith, tables.exp-length);
      g_in_bounds = omega (arith, c.move_up.auto.tail);
    }

pub returns : goal.returns
returns c =
    let e = (goal.at.returns c).Else-factor-eq0 in
    let s = start e in
    step-of-power (size_of s.args.field.now.size) s.args.g.now s.args.tail.now s.args.word s.requires.tail_len_1
    e.move_up.ensures c.from-k.result s.requires.g_words
    (power-of-log s.args.field.now.tables (leaving-word e) e.if-factor-eq0.false (search rules))
    c.add_multiple.ensures
