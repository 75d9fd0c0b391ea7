-- The first c modules of the row stand at their places.
-- Assumes nothing.
use Rattle.std.proofs.Common.{refl, ap, ◌+◌, ◌*◌, arith, length-set}
use Rattle.list_laws.specs.Writes.{writes-none, writes-step}
use Rattle.symbol.specs.Shapes.{side}
use Rattle.symbol.specs.Places.{fixed_place}
use Rattle.symbol.specs.DataPlaces.{side-most}
use Rattle.drawing.proofs.Rows.{row-module}
use Rattle.drawing.proofs.fixed.draw_row.Goals as goal
use Rattle.drawing.proofs.fixed.draw_row.Goals.{In-loop-c, Start}

pub loop-c-init : goal.loop-c-init
loop-c-init c = (refl, writes-none _ _ _)

pub fixed_at-requires : goal.fixed_at-requires
fixed_at-requires c =
    let most = side-most c.args.shape.full c.args.shape.layers c.args.shape.shaped in
    (omega arith, omega arith)

pub loop-c-preserved : goal.loop-c-preserved
loop-c-preserved c =
    let l = c.loop-c in
    let s = c in
    let a = s.args in
    let e = c.side-n.ensures in (
      simp length-set l.invariant.0,
      writes-step _ (λ c. a.row * side a.shape.full a.shape.layers + c) (λ c. fixed_place a.shape.full a.shape.layers (a.row * side a.shape.full a.shape.layers + c))
          l.c l.invariant.1 (ap (λ n. a.row * n + l.c) e)
          (row-module a.shape.full a.shape.layers e a.row l.c (omega arith) c.abs_diff.ensures
          c.abs_diff-y.ensures c.fixed_at.ensures),
    )
