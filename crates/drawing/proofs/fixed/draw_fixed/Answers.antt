-- The first rows stand at their places.
-- Assumes nothing.
use Rattle.std.proofs.Common.{rules, ◌≡◌, refl, ap, ◌∙◌, ◌*◌, arith}
use Rattle.list_laws.specs.Writes.{writes}
use Rattle.symbol.specs.Shapes.{side}
use Rattle.symbol.specs.Places.{fixed_place}
use Rattle.symbol.specs.Drawing.{with_fixed}
use Rattle.drawing.proofs.Rows.{no_rows, row-drawn}
use Rattle.drawing.proofs.fixed.draw_fixed.Goals as goal

pub loop-row-init : goal.loop-row-init
loop-row-init c =
    let a = c.args in
    (refl, no_rows a.shape.full a.shape.layers _)

pub loop-row-preserved : goal.loop-row-preserved
loop-row-preserved c =
    let a = c.args in
    let l = c.loop-row in
    (search rules, row-drawn a.shape.full a.shape.layers _ l.row l.invariant.1 c.draw_row.ensures)

pub returns : goal.returns
unfolding with_fixed
returns c =
    let a = c.args in
    let e : c.loop-row.row ≡ side a.shape.full a.shape.layers = omega arith in
    c.loop-row.invariant.1 ∙ ap (λ row. writes a.grid.now (λ k. k) (fixed_place a.shape.full a.shape.layers) (row * side a.shape.full a.shape.layers)) e
