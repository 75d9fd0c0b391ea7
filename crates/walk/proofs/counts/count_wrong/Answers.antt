-- The loop has counted the words below w that were read and differ from those found.
-- Assumes nothing.
use Rattle.std.proofs.Common.{eq-eqb, ne_eqb, ◌≡◌, sym, ap, ap₂, ◌∙◌, Bool, not, ◌&&◌, arith, eqb, get_or}
use Rattle.list_laws.specs.Range.{count, count_none, count_most, count_yes, count_no}
use Rattle.walk.specs.Counts.{is_wrong, wrong_of}
use Rattle.walk.proofs.counts.count_wrong.Goals as goal
use Rattle.walk.proofs.counts.count_wrong.Goals.{then-marks-w-ne1+then-found-w, then-marks-w-ne1+else-found-w, else-marks-w-ne1}

abbrev neither : Bool → Bool → Bool
neither a b = not a && not b

pub loop-w-init : goal.loop-w-init
loop-w-init c = sym (count_none _)

pub overflow_add-wrong : goal.overflow_add-wrong
overflow_add-wrong c =
    let a = c.args in
    omega (arith, count_most c.loop-w.w (is_wrong a.received.now a.marks.now a.found.now))

pub loop-w-preserved : goal.loop-w-preserved
loop-w-preserved c =
    let a = c.args in
    let w = c.loop-w.w in
    let test = is_wrong a.received.now a.marks.now a.found.now in
    elim c.if-marks-w-ne1.branch [
      | then-marks-w-ne1+then-found-w t ↦
          t.wrong-is
          ∙ count_yes w test c.loop-w.invariant (ap₂ neither (ne_eqb _ _ t.if-marks-w-ne1.true) (ne_eqb _ _ t.if-found-w.true))
      | then-marks-w-ne1+else-found-w t ↦
          t.wrong-is
          ∙ count_no w test c.loop-w.invariant (ap₂ neither (ne_eqb _ _ t.if-marks-w-ne1.true) (eq-eqb _ _ t.if-found-w.false))
      | else-marks-w-ne1 t ↦
          t.wrong-is
          ∙ count_no w test c.loop-w.invariant
          (ap (λ b. neither b (eqb (get_or a.found.now w 0) (get_or a.received.now w 0))) (eq-eqb _ _ t.if-marks-w-ne1.false))
    ]

pub returns : goal.returns
unfolding wrong_of
returns c =
    let a = c.args in
    let end : c.loop-w.w ≡ a.words = omega arith in
    c.loop-w.invariant ∙ ap (λ n. count n (is_wrong a.received.now a.marks.now a.found.now)) end
