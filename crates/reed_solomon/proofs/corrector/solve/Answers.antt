-- No syndrome, or a repair.
-- Assumes nothing.
use Rattle.std.proofs.Common.{◌++◌, drop, true, ◌≤◌, ◌≡◌, sym, ap, ◌∙◌, List, ℕ, arith, lit≤, length}
use Rattle.std.proofs.Math.Option.{Option, some}
use Rattle.finite_field.specs.Field.{size_of}
use Rattle.evaluation.proofs.Elements.{zero-words}
use Rattle.correction.proofs.Coefficients.{coefficients-given, syndromes-are}
use Rattle.block_code.specs.Nearest.{nearest}
use Rattle.reed_solomon.specs.Correct.{answer}
use Rattle.std.proofs.lemmas.List.{length-take-le}
use Rattle.evaluation.proofs.Parts.{put-length, given-front, asked-front, value-front, valued-front}
use Rattle.correction.specs.Steps.{Syndromes}
use Rattle.correction.proofs.Acceptance.{zeros}
use Rattle.reed_solomon.proofs.Clean.{restored, clean-block, zeros-front}
use Rattle.reed_solomon.proofs.corrector.solve.Goals as goal
use Rattle.reed_solomon.proofs.corrector.solve.Goals.{After-evaluate, Start}

abbrev start : After-evaluate → Start
start c = (goal.at.After-evaluate c).Start

-- the two slices are long enough
fits : (c : Start) → (length c.args.received.now.words.now ≤ length c.args.work.now) × (c.args.received.now.check_words ≤ length c.args.s.now)
fits c = (c.requires.coefficients_2, omega (arith, c.requires.lawful.check-lt, c.requires.coefficients_3.longer))

-- what is left in s: the syndromes of the block, zeros after them
are : (c : After-evaluate)
    → let a = (start c).args in
    Syndromes (size_of a.field.now.size) a.received.now.check_words a.received.now.words.now a.received.now.marks.now
    (c.evaluate.new.out ++ drop a.received.now.check_words a.s.now)
are c =
    let s = start c in
    let a = s.args in
    let size = size_of a.field.now.size in
    let blank = s.requires.coefficients_3.zeros in
    syndromes-are size a.work.now s.requires.lawful s.requires.coefficients_1 blank
    (valued-front size a.received.now.check_words a.s.now (fits s).1 (zero-words size a.s.now blank) c.evaluate.auto.out
    (value-front size (length a.received.now.words.now) a.work.now (fits s).0) c.evaluate.ensures)

kept : (c : After-evaluate)
    → let a = (start c).args in
    length (c.evaluate.new.out ++ drop a.received.now.check_words a.s.now) ≡ length a.s.now
kept c =
    let s = start c in
    let check = s.args.received.now.check_words in
    put-length check s.args.s.now c.evaluate.new.out (c.evaluate.auto.out ∙ length-take-le check s.args.s.now (fits s).1) (fits s).1

pub evaluate-requires : goal.evaluate-requires
evaluate-requires c =
    let s = (goal.at.evaluate-requires c).Start in
    let l = s.requires.lawful in
    let a = s.args in
    let size = size_of a.field.now.size in
    let blank = s.requires.coefficients_3 in record {
      given = given-front size (length a.received.now.words.now) a.work.now (fits s).0
          (coefficients-given size a.work.now l s.requires.coefficients_1 s.requires.coefficients_2);
      asked = asked-front size a.received.now.check_words a.s.now (fits s).1 (record {
        first-le = lit≤ tt;
        last-le = omega (arith, l.check-lt, l.length-lt);
        fits = (fits s).1;
        words = zero-words size a.s.now blank.zeros;
      });
    }

pub restore-requires : goal.restore-requires
restore-requires c =
    omega (arith, c.requires.same_length, c.requires.coefficients_2)

pub returns-then-all_zero : goal.returns-then-all_zero
returns-then-all_zero c =
    let e = (goal.at.returns-then-all_zero c).After-evaluate in
    let s = start e in
    let a = s.args in
    let size = size_of a.field.now.size in
    let received = a.received.now.words.now in
    let check = a.received.now.check_words in
    let work = a.work.now in
    let left = e.evaluate.new.out ++ drop check a.s.now in
    let none : zeros check left ≡ true
    = sym (zeros-front check left (omega (arith, kept e, (fits s).1))) ∙ sym c.all_zero.ensures ∙ c.if-all_zero.true in
    let out : nearest size check a.received.now.limit received a.received.now.marks.now ≡ some (restored work (length received))
    = clean-block size work s.requires.lawful s.requires.coefficients_1 (are e) none s.requires.few in record {
      value = sym (ap (λ (o : Option (List ℕ)). (answer o a.corrected.now).number) out);
      corrected_after = c.restore.ensures ∙ ap (restored work) s.requires.same_length ∙ sym (ap (λ (o : Option (List ℕ)). (answer o a.corrected.now).words) out);
    }

pub repair-requires : goal.repair-requires
repair-requires c =
    let e = (goal.at.repair-requires c).After-evaluate in
    let s = start e in record {
      damaged = record {
        lawful = s.requires.lawful;
        few = s.requires.few;
        are = are e;
        longer = omega (arith, kept e, s.requires.coefficients_3.longer);
      };
      same_length = s.requires.same_length;
    }

pub returns-then-repair : goal.returns-then-repair
returns-then-repair c =
    let out = c.repair.ensures.is-near c.if-repair.true in record {
      value = sym (ap (λ (o : Option (List ℕ)). (answer o c.args.corrected.now).number) out);
      corrected_after = sym (ap (λ (o : Option (List ℕ)). (answer o c.args.corrected.now).words) out);
    }

pub returns : goal.returns
returns c =
    let far = c.repair.ensures.is-far c.if-repair.false in
    let out = far.0 in record {
      value = sym (ap (λ (o : Option (List ℕ)). (answer o c.args.corrected.now).number) out);
      corrected_after = far.1 ∙ sym (ap (λ (o : Option (List ℕ)). (answer o c.args.corrected.now).words) out);
    }
