-- The marked places among the first i are taken out.
-- Assumes nothing.
use Rattle.std.proofs.Common.{◌≡◌, refl, ap, ◌∙◌, arith, length}
use Rattle.correction.proofs.Sequences.{taken_none, taken-read, taken-marked, taken-all}
use Rattle.correction.proofs.erasures.erase.Goals as goal
use Rattle.correction.proofs.erasures.erase.Goals.{else-mark-eq1, then-mark-eq1}

pub loop-i-init : goal.loop-i-init
loop-i-init c =
    (refl, taken_none c.requires.words c.requires.marks_len_bound_3)

pub take_out-requires : goal.take_out-requires
take_out-requires c =
    let l = c.loop-i in record {
      words = l.invariant.1.words;
      k_bound_1 = omega arith;
      k_bound_2 = omega arith;
    }

pub loop-i-preserved : goal.loop-i-preserved
loop-i-preserved c =
    let l = c.loop-i in
    elim c.if-mark-eq1.branch [
      | then-mark-eq1 w ↦ (
        ap length w.u-is ∙ w.take_out.auto.u ∙ l.invariant.0,
        taken-marked l.invariant.1 w.if-mark-eq1.true (w.u-is ∙ w.take_out.ensures),
      )
      | else-mark-eq1 w ↦ (ap length w.u-is ∙ l.invariant.0, taken-read l.invariant.1 w.if-mark-eq1.false w.u-is)
    ]

pub returns : goal.returns
returns c =
    let all : c.loop-i.i ≡ length c.args.marks.now = omega arith in
    taken-all (rw all at c.loop-i.invariant.1)
