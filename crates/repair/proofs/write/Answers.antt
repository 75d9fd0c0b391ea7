-- The block is written up to i: each place holds what its mark says.
-- Assumes nothing.
use Rattle.std.proofs.Common.{rules, eq-eqb, ne_eqb, ◌≡◌, ap, ◌∙◌, List, ℕ, ◌+◌, ◌<◌, arith, length, get_or}
use Rattle.list_laws.specs.Filled.{tabulate, filled, filled_none, filled-step, filled-all, length-filled}
use Rattle.finite_field.specs.Xor.{◌⊕◌}
use Rattle.correction.specs.Steps.{written_at}
use Rattle.repair.proofs.write.Goals as goal
use Rattle.repair.proofs.write.Goals.{else-marks-i-eq1, then-marks-i-eq1}

module _ (received marks corrections : List ℕ) (i : ℕ) where
  written-marked : get_or marks i 0 ≡ 1 → get_or corrections i 0 ≡ written_at received marks corrections i
  written-marked e = simp (eq-eqb _ _ e)

  written_read : (get_or marks i 0 ≡ 1 → ⊥) → get_or received i 0 ⊕ get_or corrections i 0 ≡ written_at received marks corrections i
  written_read n = simp (ne_eqb _ _ n)

pub loop-i-init : goal.loop-i-init
loop-i-init c = (search rules, filled_none _ _)

pub loop-i-preserved : goal.loop-i-preserved
loop-i-preserved c =
    let a = c.args in
    let written = written_at a.received.now a.marks.now a.corrections.now in
    let i = c.loop-i.i in
    let old = c.loop-i.invariant.1 in
    let h : i < length a.corrected.now = omega arith in
    let e : c.if-marks-i-eq1.corrected ≡ filled written (i + 1) a.corrected.now =
    elim c.if-marks-i-eq1.branch [ then-marks-i-eq1 w ↦ w.corrected-is ∙ filled-step written _ _ old (written-marked a.received.now a.marks.now a.corrections.now i w.if-marks-i-eq1.true) h | else-marks-i-eq1 w ↦ w.corrected-is ∙ filled-step written _ _ old (written_read a.received.now a.marks.now a.corrections.now i w.if-marks-i-eq1.false) h ] in
    (ap length e ∙ length-filled written _ _ (omega arith) ∙ c.requires.fact_2, e)

pub returns : goal.returns
returns c =
    let a = c.args in
    let written = written_at a.received.now a.marks.now a.corrections.now in
    let same = c.requires.fact_2 in
    let end : c.loop-i.i ≡ length a.corrected.now = omega arith in
    c.loop-i.invariant.1
    ∙ ap (λ n. filled written n a.corrected.now) end
    ∙ filled-all written a.corrected.now
    ∙ ap (tabulate written) same
