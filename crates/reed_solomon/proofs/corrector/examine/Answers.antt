-- The tests one after the other, and the answer of the call where all pass.
-- Assumes nothing.
use Rattle.std.proofs.Common.{rules, None, ◌≡◌, refl, sym, ap, List, ℕ, ◌^◌, ◌<◌, arith, length}
use Rattle.std.proofs.Math.Option.{Option, none}
use Rattle.finite_field.specs.Field.{size_of, bits}
use Rattle.finite_field.specs.FieldLaws.{most-words}
use Rattle.block_code.specs.Nearest.{nearest}
use Rattle.block_code.specs.NearestLaws.{too-many-marks}
use Rattle.reed_solomon.specs.Correct.{answer}
use Rattle.reed_solomon.proofs.Judging.{Counts, as-answer, judge-32, judge-33, judge-answer, lawful}
use Rattle.reed_solomon.proofs.Reading.{refused-words, read-words, read-count}
use Rattle.reed_solomon.proofs.corrector.examine.Goals as goal

pub returns-then-words-n : goal.returns-then-words-n
returns-then-words-n c =
    let all = let a = c.args in
    let size = size_of a.field.now.size in
    let received = a.received.now in
    let marks = a.marks.now in
    as-answer (judge-32 size a.check_words received marks a.corrected.now (λ k. omega (arith, c.args.field.now.tables.exp-length))) (refl, refl) in record {
      value = all.0;
      corrected_after = all.1;
    }

pub returns-then-check_words-eq0 : goal.returns-then-check_words-eq0
returns-then-check_words-eq0 c =
    let all = let a = c.args in
    let size = size_of a.field.now.size in
    let received = a.received.now in
    let marks = a.marks.now in
    as-answer (judge-32 size a.check_words received marks a.corrected.now (λ k. omega arith)) (refl, refl) in record {
      value = all.0;
      corrected_after = all.1;
    }

pub returns-then-n-check_words : goal.returns-then-n-check_words
returns-then-n-check_words c =
    let all = let a = c.args in
    let size = size_of a.field.now.size in
    let received = a.received.now in
    let marks = a.marks.now in
    as-answer (judge-32 size a.check_words received marks a.corrected.now (λ k. omega arith)) (refl, refl) in record {
      value = all.0;
      corrected_after = all.1;
    }

pub read_block-requires : goal.read_block-requires
read_block-requires c =
    let a = c.args in
    let size = size_of a.field.now.size in
    let received = a.received.now in
    let marks = a.marks.now in
    let lt : length received < 2 ^ bits size = omega (arith, c.args.field.now.tables.exp-length) in record {
      fact_1 = c.requires.lengths_1;
      fact_2 = omega (arith, (c.requires.blank_1 lt).longer);
      fact_3 = omega (arith, c.args.field.now.tables.exp-length, most-words size);
    }

pub returns-in_default : goal.returns-in_default
returns-in_default c =
    let all = let a = c.args in
    let size = size_of a.field.now.size in
    let received = a.received.now in
    let marks = a.marks.now in
    let counts : Counts size a.check_words (length received) = (omega (arith, a.field.now.tables.exp-length), omega arith, omega arith) in
    let read = c.read_block.ensures size a.field.now.tables.exp-length in
    let none : c.read_block.result ≡ None = search rules in
    as-answer (judge-33 size a.check_words received marks a.corrected.now counts (refused-words size received marks read none)) (refl, refl) in record {
      value = all.0;
      corrected_after = all.1;
    }

pub returns-then-check_words-e : goal.returns-then-check_words-e
returns-then-check_words-e c =
    let all = let a = c.args in
    let size = size_of a.field.now.size in
    let received = a.received.now in
    let marks = a.marks.now in
    let counts : Counts size a.check_words (length received) = (omega (arith, a.field.now.tables.exp-length), omega arith, omega arith) in
    let read = c.read_block.ensures size a.field.now.tables.exp-length in
    let words = read-words size received marks read c.in-Some.is in
    let out : nearest size a.check_words a.check_words received marks ≡ none
    = too-many-marks size a.check_words a.check_words received marks
    (omega (arith, read-count size received marks read c.in-Some.is, c.if-check_words-e.true)) in
    as-answer (judge-answer size a.check_words received marks a.corrected.now counts words) (
      sym (ap (λ (o : Option (List ℕ)). (answer o a.corrected.now).number) out),
      sym (ap (λ (o : Option (List ℕ)). (answer o a.corrected.now).words) out),
    ) in record {
      value = all.0;
      corrected_after = all.1;
    }

pub solve-requires : goal.solve-requires
solve-requires c =
    let a = c.args in
    let size = size_of a.field.now.size in
    let received = a.received.now in
    let marks = a.marks.now in
    let counts : Counts size a.check_words (length received) = (omega (arith, a.field.now.tables.exp-length), omega arith, omega arith) in
    let read = c.read_block.ensures size a.field.now.tables.exp-length in
    let words = read-words size received marks read c.in-Some.is in
    let l = lawful size a.check_words received marks a.corrected.now counts words c.requires.lengths_1 in record {
      lawful = l;
      same_length = c.requires.lengths_2;
      few = omega (arith, read-count size received marks read c.in-Some.is, c.if-check_words-e.false);
      coefficients_1 = read.coefficients words;
      coefficients_2 = omega (arith, c.read_block.auto.to, (c.requires.blank_1 l.length-lt).longer);
      coefficients_3 = c.requires.blank_2 l.length-lt;
    }

pub returns : goal.returns
returns c =
    let all = let a = c.args in
    let size = size_of a.field.now.size in
    let received = a.received.now in
    let marks = a.marks.now in
    let counts : Counts size a.check_words (length received)
    = (omega (arith, a.field.now.tables.exp-length, c.if-words-n.false), omega (arith, c.if-check_words-eq0.false), omega (arith, c.if-n-check_words.false)) in
    let read = c.read_block.ensures size a.field.now.tables.exp-length in
    let words = read-words size received marks read c.in-Some.is in
    as-answer (judge-answer size a.check_words received marks a.corrected.now counts words) (c.solve.ensures.value, c.solve.ensures.corrected_after) in record {
      value = all.0;
      corrected_after = all.1;
    }
