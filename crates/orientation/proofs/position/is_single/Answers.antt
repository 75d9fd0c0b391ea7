-- The test of the eight positions.
-- Assumes nothing.
use Rattle.std.proofs.Common.{◌≡◌, sym, ap, ◌∙◌, refl, rules, Bool, true, false, ℕ, ◌||◌, ◌&&◌, eqb, ltb, leb, get_or}
use borrow.Author.Tests.{tests}
use Rattle.std.proofs.lemmas.Iterator.{YieldsList-from_range}
use Rattle.std.proofs.lemmas.Iterator.Search.{all_from_yields_List}
use Rattle.list_laws.specs.Range.{all}
use Rattle.orientation.specs.Position.{single}
use Rattle.orientation.proofs.Ranges.{all-range}
use Rattle.orientation.proofs.position.is_single.Goals as goal
use Rattle.orientation.proofs.position.is_single.Goals.{After-all}

abbrev matched : After-all → ℕ → ℕ
matched c q = get_or c.args.counts.now q 0

-- whether no other position has as many
others : (c : After-all) → c.all.result ≡ all 8 (λ q. eqb q c.args.p || ltb (matched c q) (matched c c.args.p))
others c =
    let test : ℕ → Bool = λ q. eqb q c.args.p || ltb (matched c q) (matched c c.args.p) in
    all_from_yields_List test _ _ _ c.all.ensures.ran (YieldsList-from_range 0 8 8 refl refl) (λ x b q k. search (rules, tests)) ∙ all-range test 8

kept : (b : Bool) → b ≡ b && true
kept true = refl
kept false = refl

lost : (b : Bool) → false ≡ b && false
lost true = refl
lost false = refl

pub returns-then-all : goal.returns-then-all
unfolding single
returns-then-all c =
    kept _ ∙ ap (λ b. leb 9 (get_or c.args.counts.now c.args.p 0) && b) (sym c.if-all.true ∙ others (goal.at.returns-then-all c).After-all)

pub returns-else-all : goal.returns-else-all
unfolding single
returns-else-all c =
    c.if-all.false ∙ lost _ ∙ ap (λ b. leb 9 (get_or c.args.counts.now c.args.p 0) && b) (sym c.if-all.false ∙ others (goal.at.returns-else-all c).After-all)
