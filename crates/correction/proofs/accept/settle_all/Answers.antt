-- The corrections below i are in the syndromes.
-- Assumes nothing.
use Rattle.std.proofs.Common.{◌≡◌, arith}
use Rattle.correction.proofs.Settling.{settling-all-none, settling-all-same, settling-all-next}
use Rattle.correction.proofs.accept.settle_all.Goals as goal
use Rattle.correction.proofs.accept.settle_all.Goals.{else-corrections-i-gt0, then-corrections-i-gt0}

pub loop-i-init : goal.loop-i-init
loop-i-init c = settling-all-none _ _ _ _ _ c.requires.words

pub settle-requires : goal.settle-requires
settle-requires c =
    let pre = c.requires in record {
      word = pre.correction_words c.loop-i.i;
      words = c.loop-i.invariant.words;
      k_bound = omega arith;
      positive = c.if-corrections-i-gt0.true;
    }

pub loop-i-preserved : goal.loop-i-preserved
loop-i-preserved c =
    elim c.if-corrections-i-gt0.branch [ then-corrections-i-gt0 w ↦ rw w.s-is (settling-all-next _ _ _ _ _ c.loop-i.invariant (rw c.loop-i.invariant.size at w.settle.ensures) w.settle.auto.s) | else-corrections-i-gt0 w ↦ rw w.s-is (settling-all-same _ _ _ _ _ c.loop-i.invariant (omega (arith, w.if-corrections-i-gt0.false))) ]

pub returns : goal.returns
returns c =
    let settling = c.loop-i.invariant in
    let end : c.loop-i.i ≡ c.args.n = omega arith in
    record { words = settling.words; sums = rw end at settling.sums }
