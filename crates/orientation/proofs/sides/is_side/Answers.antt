-- The search over the numbers of shapes.
-- Assumes nothing.
use Rattle.std.proofs.Common.{◌∙◌, rules, refl}
use borrow.Author.Tests.{tests}
use Rattle.std.proofs.lemmas.Iterator.{YieldsList-from_range}
use Rattle.std.proofs.lemmas.Iterator.Search.{any_from_yields_List}
use Rattle.orientation.specs.Sides.{has_side, is_side}
use Rattle.orientation.proofs.Ranges.{any-range}
use Rattle.orientation.proofs.sides.is_side.Goals as goal

pub returns : goal.returns
unfolding is_side has_side
returns c =
    any_from_yields_List (has_side c.args.n) _ _ _ c.any.ensures.ran (YieldsList-from_range 1 37 36 refl refl) (λ x b q k. search (rules, tests))
    ∙ any-range (has_side c.args.n) 1 36
