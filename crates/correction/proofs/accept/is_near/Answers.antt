-- The settled syndromes are those of the candidate; with the counts they say whether it is near.
-- Assumes nothing.
use Rattle.std.proofs.Common.{◌≡◌, length, ap, sym, ◌∙◌, arith}
use Rattle.finite_field.specs.Field.{size_of}
use Rattle.list_laws.specs.Tests.{holds}
use Rattle.correction.proofs.Acceptance.{zeros, count-words, near, near-zeros, not-near}
use Rattle.correction.proofs.accept.is_near.Goals as goal
use Rattle.correction.proofs.accept.is_near.Goals.{After-all_zero, After-settle_all, Start}

abbrev settled : After-all_zero → After-settle_all
settled c = (goal.at.After-all_zero c).After-settle_all

abbrev start : After-all_zero → Start
start c = (goal.at.After-all_zero c).Start

-- the syndromes keep their number
tested : (z : After-all_zero)
    → z.all_zero.result ≡ zeros (length (start z).args.s.now) (settled z).settle_all.new.s
tested z = z.all_zero.ensures ∙ ap (λ n. zeros n (settled z).settle_all.new.s) (settled z).settle_all.auto.s

pub overflow_mul-result : goal.overflow_mul-result
overflow_mul-result c =
    let s = start (goal.at.overflow_mul-result c).After-all_zero in
    omega (arith, count-words (size_of s.args.field.now.size) _ _ s.requires.marks_in_bounds_2 c.count_wrong.ensures)

pub overflow_add-result : goal.overflow_add-result
overflow_add-result c =
    let s = start (goal.at.overflow_add-result c).After-all_zero in
    let few = s.requires.marks_in_bounds_2 in
    let size = size_of s.args.field.now.size in
    omega (arith, count-words size _ _ few c.count_wrong.ensures, count-words size _ _ few c.count_marks.ensures)

pub returns-then-all_zero : goal.returns-then-all_zero
returns-then-all_zero c =
    let z = (goal.at.returns-then-all_zero c).After-all_zero in
    let s = start z in record {
      accepts = λ y h t.
          near _ _ _ s.args.marks.now _ _ _ s.requires.correction_words (settled z).settle_all.ensures y h
          (sym (tested z) ∙ c.if-all_zero.true)
          c.count_wrong.ensures
          c.count_marks.ensures
          t;
      refuses = λ y h t n.
          not-near _ _ _ s.args.marks.now _ _ _ s.requires.correction_words (settled z).settle_all.ensures y h
          c.count_wrong.ensures
          c.count_marks.ensures
          t
          n;
    }

pub returns : goal.returns
returns c =
    let z = (goal.at.returns c).After-all_zero in
    let s = start z in record {
      accepts = λ y h t. absurd (holds t);
      refuses = λ y h t n.
          holds
          (sym c.if-all_zero.false
          ∙ tested z
          ∙ near-zeros _ _ _ s.args.marks.now _ _ _ s.requires.correction_words (settled z).settle_all.ensures y h n);
    }
