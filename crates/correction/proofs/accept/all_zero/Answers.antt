-- The words in front are all 0.
-- Assumes nothing.
use Rattle.std.proofs.Common.{rules, tests, ◌≡◌, ◌∙◌, ℕ, eqb}
use Rattle.std.specs.List.{list_all}
use Rattle.std.proofs.lemmas.Iterator.{YieldsList-from_slice}
use Rattle.std.proofs.lemmas.Iterator.Search.{all_from_yields_List}
use Rattle.correction.proofs.Counting.{all-listed}
use Rattle.correction.proofs.accept.all_zero.Goals as goal

pub returns : goal.returns
returns c =
    let listed : c.all.result ≡ list_all (λ (x : ℕ). eqb x 0) c.args.words.now =
    all_from_yields_List (λ (x : ℕ). eqb x 0) _ _ c.all.result c.all.ensures.ran (YieldsList-from_slice c.args.words.now cc)
    (λ x b q k. search (rules, tests)) in
    listed ∙ all-listed (λ x. eqb x 0) c.args.words.now
