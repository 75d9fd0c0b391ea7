-- The first b bits of the word stand at their places.
-- Assumes nothing.
use Rattle.std.proofs.Common.{refl, arith, length, get_or, length-set}
use Rattle.list_laws.specs.Writes.{writes-none, writes-step}
use Rattle.symbol.specs.Drawing.{bit_of}
use Rattle.symbol.specs.Tables.{fits-at}
use Rattle.drawing.proofs.draw_word.Goals as goal

pub loop-b-init : goal.loop-b-init
loop-b-init c = (refl, writes-none _ _ _)

pub bounds-grid-at : goal.bounds-grid-at
bounds-grid-at c = omega (arith, fits-at c.args.places.now c.requires.fact_2 c.loop-b.b (omega arith))

pub loop-b-preserved : goal.loop-b-preserved
unfolding bit_of
loop-b-preserved c =
    let l = c.loop-b in
    let p = c.args.places.now in (
      simp length-set l.invariant.0,
      writes-step _ (λ k. get_or p k 0) (bit_of (length p) c.args.word) l.b l.invariant.1 refl refl,
    )
