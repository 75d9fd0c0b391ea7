-- The words that were read and are corrected.
-- Assumes nothing.
use Rattle.std.proofs.Common.{rules, tests, ◌≡◌, ◌∙◌, ℕ, Bool, eqb, not, ◌&&◌, length}
use Rattle.std.specs.List.{filter, zip}
use Rattle.std.proofs.lemmas.List.Sums.{length-filter}
use Rattle.std.proofs.lemmas.Iterator.{YieldsList-from_slice, YieldsList-from_zip}
use Rattle.std.proofs.lemmas.Iterator.Consumers.{YieldsList-at, count_from_yields_List, YieldsList-from_filter}
use Rattle.correction.proofs.Counting.{count-zipped}
use Rattle.correction.proofs.accept.count_wrong.Goals as goal

-- a word that was read and is corrected
abbrev wrong : ℕ × ℕ → Bool
wrong p = not (eqb p.0 1) && not (eqb p.1 0)

pub returns : goal.returns
returns c =
    let marks = c.args.marks.now in
    let corrections = c.args.corrections.now in
    let counted : c.count.result ≡ length (filter wrong (zip marks corrections))
    = count_from_yields_List c.filter-wrong.result c.count.result c.count.ensures.ran
    (YieldsList-from_filter _ wrong
    (YieldsList-at c.filter-wrong.ensures.source
    (YieldsList-from_zip (YieldsList-at c.zip-words.ensures.first (YieldsList-from_slice marks cc)) (YieldsList-from_slice corrections (search rules))))
    c.filter-wrong.ensures.closure (λ x b q k. search (rules, tests))) in
    counted ∙ length-filter wrong (zip marks corrections) ∙ count-zipped wrong marks corrections c.requires
