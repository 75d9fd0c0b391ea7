-- The two tests of `taken`, one after the other.
-- Assumes nothing.
use Rattle.std.proofs.Common.{eq-eqb, ne_eqb, sym, ap, ◌∙◌, Bool, ◌||◌, ℕ, suc, ◌-◌, ◌<◌, add-one, arith, length, get_or}
use Rattle.algebra.specs.Field.{is_zero}
use Rattle.algebra.specs.KeyEquation.{eval}
use Rattle.finite_field.specs.Field.{size_of}
use Rattle.finite_field.specs.Instance.{word_field, entry}
use Rattle.correction.specs.Steps.{place}
use Rattle.correction.proofs.Acceptance.{zero_test}
use Rattle.correction.proofs.values.is_taken.Goals as goal

pub returns-then-marks-i-eq1 : goal.returns-then-marks-i-eq1
returns-then-marks-i-eq1 c =
    let a = c.args in
    let size = size_of a.field.now.size in
    sym
    (ap (λ (t : Bool). t || is_zero (word_field size) (eval (word_field size) (suc a.degree) (entry size a.p.now) (place size (length a.marks.now) a.i)))
    (eq-eqb (get_or a.marks.now a.i 0) 1 c.if-marks-i-eq1.true))

pub returns : goal.returns
returns c =
    let a = c.args in
    let size = size_of a.field.now.size in
    let P = entry size a.p.now in
    let n = length a.marks.now in
    let k = n - 1 - a.i in
    let k_lt : k < n = omega arith in
    sym (zero_test size (c.requires.fact_1.words k))
    ∙ ap (is_zero (word_field size))
    (c.requires.fact_1.values k k_lt
    ∙ ap (λ (m : ℕ). eval (word_field size) m P (place size n a.i)) (add-one a.degree))
    ∙ sym
    (ap (λ (t : Bool). t || is_zero (word_field size) (eval (word_field size) (suc a.degree) P (place size n a.i)))
    (ne_eqb (get_or a.marks.now a.i 0) 1 c.if-marks-i-eq1.false))
