-- 0 stands at the places so far.
-- Assumes nothing.
use Rattle.std.proofs.Common.{refl, arith, get_or, length-set}
use Rattle.list_laws.specs.Writes.{writes-none, writes-step}
use Rattle.symbol.specs.Tables.{fits-at}
use Rattle.drawing.proofs.draw_zeros.Goals as goal

pub loop-place-init : goal.loop-place-init
loop-place-init c = (refl, writes-none _ _ _)

pub bounds-grid-at : goal.bounds-grid-at
bounds-grid-at c = omega (arith, fits-at c.args.places.now c.requires c.loop-place.place-index (omega arith))

pub loop-place-preserved : goal.loop-place-preserved
loop-place-preserved c =
    let l = c.loop-place in
    (simp length-set l.invariant.0, writes-step _ (λ k. get_or c.args.places.now k 0) (λ k. 0) l.place-index l.invariant.1 refl refl)
