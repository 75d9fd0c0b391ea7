-- A ring is light if the chain finds no place that is not.
-- Assumes nothing.
use Rattle.std.proofs.Common.{◌≡◌, ◌∙◌, true, false, rules, arith}
use Rattle.std.proofs.lemmas.Iterator.{YieldsList-from_range, cases_from_all}
use Rattle.grid_text.specs.Border.{inner_side, light_at}
use Rattle.grid_text.specs.BorderLaws.{all-says, ring-all}
use Rattle.grid_text.proofs.border.is_light_ring.Goals as goal

pub returns : goal.returns
returns c =
    let a = c.args in
    let n = inner_side a.side a.ring in
    let light = light_at a.grid.now a.side a.ring in
    all-says n light c.all.result
    (cases_from_all _ _ _ (λ k. light k ≡ true) (λ k. light k ≡ false) c.all.ensures.ran (YieldsList-from_range 0 n n (cc) (omega arith)) (λ x q k. search rules) (λ x q k. search rules))
    ∙ ring-all a.grid.now a.side a.ring
