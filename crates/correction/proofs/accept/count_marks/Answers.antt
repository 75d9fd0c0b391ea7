-- The words whose mark is 1.
-- Assumes nothing.
use Rattle.std.proofs.Common.{rules, ◌≡◌, ◌∙◌, ℕ, eqb}
use Rattle.std.specs.List.{count_by}
use Rattle.correction.proofs.Counting.{count-listed}
use Rattle.correction.proofs.accept.count_marks.Goals as goal

pub returns : goal.returns
returns c =
    let listed : c.count.result ≡ count_by (λ (x : ℕ). eqb x 1) c.args.marks.now = search rules in
    listed ∙ count-listed (λ x. eqb x 1) c.args.marks.now
