-- The first j places are written.
-- Assumes nothing.
use Rattle.std.proofs.Common.{◌≡◌, refl, sym, ap, ap₂, ◌∙◌, subst, Bool, ℕ, ◌+◌, ◌*◌, ◌/◌, ◌%◌, ◌<◌}
use Rattle.list_laws.specs.Writes.{writes-none, writes-step}
use Rattle.symbol.specs.Shapes.{core}
use Rattle.symbol.specs.Places.{turned, core_place, mode_run, mode_column, mode_cell, mode_place}
use Rattle.symbol.specs.DataPlaces.{index-row, index-col}
use Rattle.symbol.proofs.places.mode_side.Goals as goal
use Rattle.symbol.proofs.places.mode_side.Goals.{After-mode_column}

-- bit j of side s, whose column is x
on-side : (f : Bool) (n s j : ℕ) {run x y : ℕ} → run ≡ mode_run f → j < run → x ≡ mode_column f j
    → y ≡ core_place f n (turned s (2 * core f + 1) 0 x) → y ≡ mode_place f n (s * run + j)
unfolding mode_place mode_cell
on-side f n s j {run} {x} e h d k =
    let side = subst (λ r. (s * run + j) / r ≡ s) e (index-row run s j h) in
    let bit = subst (λ r. (s * run + j) % r ≡ j) e (index-col run s j h) in
    k ∙ ap₂ (λ (a b : ℕ). core_place f n (turned a (2 * core f + 1) 0 b)) (sym side) (d ∙ ap (mode_column f) (sym bit))

pub loop-j-init : goal.loop-j-init
loop-j-init c = writes-none _ _ _

pub loop-j-preserved : goal.loop-j-preserved
loop-j-preserved c =
    let a = c.args in
    let s = c.requires in
    let l = c.loop-j in
    writes-step _ _ _ l.j l.invariant refl
    (on-side a.frame.full a.frame.side a.s l.j s.1 c.loop-j-test.true c.mode_column.ensures.0 c.core_place.ensures.place)
