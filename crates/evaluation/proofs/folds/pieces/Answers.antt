-- n is below the words of one part more than it fills.
-- Assumes nothing.
use Rattle.std.proofs.Common.{◌≡◌, ap, ◌∙◌, ◌+◌, ◌*◌, ◌/◌, ◌<◌, div-le_self, suc-mul, add-one, arith}
use native.Mathlib.Nat.{lt-div-mul-add}
use Rattle.evaluation.proofs.folds.pieces.Goals as goal

pub overflow_add-taken : goal.overflow_add-taken
overflow_add-taken c =
    omega (arith, div-le_self c.args.n c.args.part)

pub returns-then-taken-most : goal.returns-then-taken-most
returns-then-taken-most c =
    let n = c.args.n in
    let part = c.args.part in
    let past : n < n / part * part + part = lt-div-mul-add c.requires.fact_1 in
    let more : (n / part + 1) * part ≡ n / part * part + part = ap (λ k. k * part) (add-one (n / part)) ∙ suc-mul (n / part) part in
    record { some = omega arith; few = omega arith; enough = λ i h k. omega arith }

pub returns : goal.returns
returns c = record { some = omega arith; few = omega arith; enough = λ i h k. absurd (omega arith) }
