-- The first rows stand at their places.
-- Assumes nothing.
use Rattle.std.proofs.Common.{◌≡◌, ◌*◌, length}
use Rattle.list_laws.specs.Writes.{writes}
use Rattle.symbol.specs.Shapes.{side}
use Rattle.symbol.specs.Places.{fixed_place}
use Rattle.drawing.proofs.fixed.draw_fixed.Given as goal

abbrev pub invariant-loop-row : goal.invariant-loop-row
invariant-loop-row l =
    (length l.grid ≡ length l.initial.grid) × (l.grid ≡ writes l.initial.grid (λ k. k) (fixed_place l.shape.full l.shape.layers) (l.row * side l.shape.full l.shape.layers))
