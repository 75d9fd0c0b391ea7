-- The marks of the front that are 1.
-- Assumes nothing.
use Rattle.std.proofs.Common.{rules, ◌≡◌, ◌∙◌, take, count_by, eqb}
use Rattle.walk.specs.Counts.{marked-counted}
use Rattle.walk.proofs.counts.count_marked.Goals as goal

pub returns : goal.returns
returns c =
    let counted : c.count.result ≡ count_by (λ x. eqb x 1) (take c.args.words c.args.marks.now) = search rules in
    counted ∙ marked-counted c.args.words c.args.marks.now c.requires.1
