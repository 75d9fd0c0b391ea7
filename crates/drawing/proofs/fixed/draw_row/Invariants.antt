-- The first c modules of the row stand at their places.
-- Assumes nothing.
use Rattle.std.proofs.Common.{◌≡◌, ◌+◌, ◌*◌, length}
use Rattle.list_laws.specs.Writes.{writes}
use Rattle.symbol.specs.Shapes.{side}
use Rattle.symbol.specs.Places.{fixed_place}
use Rattle.drawing.proofs.fixed.draw_row.Given as goal

abbrev pub invariant-loop-c : goal.invariant-loop-c
invariant-loop-c l =
    (length l.grid ≡ length l.initial.grid)
    × (l.grid ≡ writes l.initial.grid (λ c. l.row * side l.shape.full l.shape.layers + c) (λ c. fixed_place l.shape.full l.shape.layers (l.row * side l.shape.full l.shape.layers + c)) l.c)
