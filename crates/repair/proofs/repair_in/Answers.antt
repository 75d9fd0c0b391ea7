-- A near candidate, or none near: each by a law of the nearest block.
-- Assumes nothing.
use Rattle.std.proofs.Common.{◌≤◌, ◌≡◌, refl, sym, ap, ◌∙◌, subst, ℕ, arith, length}
use mathlib.Core.Option.{none, some}
use Rattle.list_laws.specs.Filled.{tabulate, length-tabulate}
use Rattle.finite_field.specs.Field.{size_of}
use Rattle.block_code.specs.Nearest.{nearest}
use Rattle.block_code.specs.NearestLaws.{answer-found, answer-none}
use Rattle.correction.specs.Steps.{NearTo, corrected, SyndromesOf, read_word, written_at}
use Rattle.std.proofs.lemmas.List.{length-take-le}
use Rattle.evaluation.proofs.Parts.{front-words}
use Rattle.repair.proofs.Solving.{syndromes-front, not-both, work-for, written-words, written_entry}
use Rattle.repair.proofs.repair_in.Goals as goal

pub propose-requires : goal.propose-requires
propose-requires c =
    let d = c.requires.damaged in
    let l = d.lawful in record {
      syndromes_1 = d.are.words;
      syndromes_2 = d.are.above;
      syndromes_3 = omega (arith, d.longer, l.same_length);
      marks_bound_1 = d.few;
      marks_bound_2 = l.limit-le;
      marks_bound_3 = omega (arith, l.check-lt, l.same_length);
      marks_bound_4 = omega (arith, l.length-lt, l.same_length);
      work = work-for l.same_length c.requires.work;
    }

pub is_near-requires : goal.is_near-requires
is_near-requires c =
    let d = c.requires.damaged in
    let l = d.lawful in record {
      correction_words = c.propose.ensures.words;
      words = front-words (size_of c.args.field.now.size) c.args.received.now.check_words c.args.s.now
          (omega (arith, d.longer, l.check-lt)) (λ i _. d.are.words i);
      marks_in_bounds_1 = omega (arith, c.propose.auto.corrections, c.requires.work.missing.longer, l.same_length);
      marks_in_bounds_2 = omega (arith, l.length-lt, l.same_length);
    }

pub write-requires : goal.write-requires
write-requires c =
    record {
      fact_1 = c.requires.damaged.lawful.same_length;
      fact_2 = c.requires.same_length;
      fact_3 = omega (arith, c.propose.auto.corrections, c.requires.work.missing.longer);
    }

pub returns-then-is_near : goal.returns-then-is_near
returns-then-is_near c =
    let d = c.requires.damaged in
    let l = d.lawful in
    let size = size_of c.args.field.now.size in
    let received = c.args.received.now.words.now in
    let marks = c.args.received.now.marks.now in
    let sums = subst (λ (n : ℕ). SyndromesOf size c.args.received.now.check_words n (read_word size received marks) c.args.s.now) (sym l.same_length) d.are.sums in
    let check = c.args.received.now.check_words in
    let fits : check ≤ length c.args.s.now = omega (arith, d.longer, l.check-lt) in
    let fronts = syndromes-front size check (length marks) (read_word size received marks) c.args.s.now fits sums in
    let corrections = c.propose.new.corrections in
    let words = c.propose.ensures.words in
    let block = tabulate (written_at received marks corrections) (length received) in
    let out : nearest size c.args.received.now.check_words c.args.received.now.limit received marks ≡ some block
    = answer-found size c.args.received.now.check_words c.args.received.now.limit received marks l.same_length l.readable l.limit-le l.length-lt
    block corrections (length-tabulate (written_at received marks corrections) (length received))
    (written-words size received marks corrections l.readable words)
    (written_entry size received marks corrections l.readable words)
    (subst (λ (n : ℕ). NearTo size n c.args.received.now.limit marks (read_word size received marks) (corrected size (read_word size received marks) corrections))
    (length-take-le check c.args.s.now fits)
    (c.is_near.ensures.accepts (read_word size received marks) fronts c.if-is_near.true)) in
    record { is-near = λ _. out ∙ ap some (sym c.write.ensures); is-far = λ e. absurd (not-both e) }

pub returns : goal.returns
returns c =
    let d = c.requires.damaged in
    let l = d.lawful in
    let size = size_of c.args.field.now.size in
    let received = c.args.received.now.words.now in
    let marks = c.args.received.now.marks.now in
    let sums = subst (λ (n : ℕ). SyndromesOf size c.args.received.now.check_words n (read_word size received marks) c.args.s.now) (sym l.same_length) d.are.sums in
    let check = c.args.received.now.check_words in
    let fits : check ≤ length c.args.s.now = omega (arith, d.longer, l.check-lt) in
    let fronts = syndromes-front size check (length marks) (read_word size received marks) c.args.s.now fits sums in
    let out : nearest size c.args.received.now.check_words c.args.received.now.limit received marks ≡ none
    = answer-none size c.args.received.now.check_words c.args.received.now.limit received marks l.same_length l.readable
    c.args.s.now c.propose.new.corrections c.propose.ensures d.are.sums
    (λ near.
    c.is_near.ensures.refuses (read_word size received marks) fronts c.if-is_near.false
    (subst (λ (n : ℕ). NearTo size n c.args.received.now.limit marks (read_word size received marks) (corrected size (read_word size received marks) c.propose.new.corrections))
    (sym (length-take-le check c.args.s.now fits)) near)) in
    record { is-near = λ e. absurd (not-both (sym e)); is-far = λ _. (out, refl) }
