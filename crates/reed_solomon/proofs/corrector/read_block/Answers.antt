-- The words below i are read.
-- Assumes nothing.
use Rattle.std.proofs.Common.{T, rules, get_or, ◌≡◌, refl, ◌^◌, arith, length, length-set}
use Rattle.list_laws.specs.Range.{all_but, count_most}
use Rattle.finite_field.specs.Field.{bits}
use Rattle.block_code.specs.Nearest.{marked}
use Rattle.reed_solomon.proofs.Reading.{passes, words-refused, not-a-mark, not-a-word, marked-passes, word-passes, reading-none, reading-next, reading-all}
use Rattle.reed_solomon.proofs.corrector.read_block.Goals as goal
use Rattle.reed_solomon.proofs.corrector.read_block.Goals.{Start, else-marks-i-eq0, then-marks-i-eq0+else-words-from}

pub loop-i-init : goal.loop-i-init
loop-i-init c =
    (refl, reading-none c.args.words c.args.received.now c.args.marks.now c.args.to.now)

pub returns-then-marks-i-gt1 : goal.returns-then-marks-i-gt1
returns-then-marks-i-gt1 c s e =
    let start = (goal.at.returns-then-marks-i-gt1 c).Start in
    let l = c.loop-i in
    let received = start.args.received.now in
    let marks = start.args.marks.now in
    words-refused s received marks
    (all_but (length received) _ l.i c.loop-i-test.true (not-a-mark (2 ^ bits s) received marks l.i c.if-marks-i-gt1.true)) refl

pub returns-then-words-from : goal.returns-then-words-from
returns-then-words-from c s e =
    let start = (goal.at.returns-then-words-from c).Start in
    let l = c.loop-i in
    let received = start.args.received.now in
    let marks = start.args.marks.now in
    words-refused s received marks
    (all_but (length received) _ l.i (omega arith) (not-a-word (2 ^ bits s) received marks l.i c.if-marks-i-eq0.true (omega arith))) refl

pub overflow_add-e : goal.overflow_add-e
overflow_add-e c =
    let l = c.loop-i in
    omega (arith, l.invariant.1.counted, count_most l.i (marked c.args.marks.now))

pub loop-i-preserved : goal.loop-i-preserved
loop-i-preserved c =
    let l = c.loop-i in
    let words = c.args.words in
    let received = c.args.received.now in
    let marks = c.args.marks.now in
    let is : c.from-e.result ≡ get_or marks l.i 0 = search rules in
    let pass : T (passes words received marks l.i) = elim c.if-marks-i-eq0.branch [ then-marks-i-eq0+else-words-from w ↦ word-passes words received marks l.i w.if-marks-i-eq0.true (omega (arith, w.if-words-from.false)) | else-marks-i-eq0 w ↦ marked-passes words received marks l.i (omega (arith, w.if-marks-i-eq0.false)) ] in (
      simp length-set (search rules),
      rw is (reading-next words received marks l.invariant.1 (omega arith) (omega arith) (omega arith) pass c.read_word.ensures),
    )

pub returns : goal.returns
returns c s e =
    let start = (goal.at.returns c).Start in
    let l = c.loop-i in
    let all : l.i ≡ length start.args.received.now = omega arith in
    reading-all s start.args.words start.args.received.now start.args.marks.now e start.requires.fact_1 all l.invariant.1
