-- The search over the eight positions.
-- Assumes nothing.
use Rattle.std.proofs.Common.{◌∙◌, refl, rules, get_or}
use borrow.Author.Tests.{tests}
use Rattle.std.proofs.lemmas.Iterator.{YieldsList-from_range}
use Rattle.std.proofs.lemmas.Iterator.Search.{find_from_yields_List}
use Rattle.orientation.specs.Position.{single}
use Rattle.orientation.proofs.Ranges.{find-range, same}
use Rattle.orientation.proofs.position.position_in.Goals as goal

pub returns : goal.returns
returns c =
    let test = single (λ q. get_or c.args.counts.now q 0) in
    same c.find.result
    ∙ find_from_yields_List test _ _ c.find.result c.find.ensures.ran (YieldsList-from_range 0 8 8 refl refl) (λ x b q k. search (rules, tests))
    ∙ find-range test 0 8
