-- The two ways of the test, as `eqb` answers it.
-- Assumes nothing.
use Rattle.std.proofs.Common.{eq-eqb, ne_eqb, sym, ap, Bool, cond}
use Rattle.reed_solomon.proofs.corrector.read_word.Goals as goal

pub returns-then-mark-eq1 : goal.returns-then-mark-eq1
returns-then-mark-eq1 c =
    let a = c.args in
    sym (ap (λ (t : Bool). cond t 0 a.word) (eq-eqb a.mark 1 c.if-mark-eq1.true))

pub returns : goal.returns
returns c =
    let a = c.args in
    sym (ap (λ (t : Bool). cond t 0 a.word) (ne_eqb a.mark 1 c.if-mark-eq1.false))
