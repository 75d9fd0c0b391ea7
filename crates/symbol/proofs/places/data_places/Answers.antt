-- The places of the layers outside of the next one are written.
-- Assumes nothing.
use Rattle.std.proofs.Common.{sym, ap, subst, ◌*◌, arith, length}
use Rattle.list_laws.specs.Writes.{writes-none, writes_more, length-writes}
use Rattle.symbol.specs.DataPlaces.{square-most}
use Rattle.symbol.specs.declared.places.Layer.{Layer}
use Rattle.symbol.specs.Walk.{run, Walked, Ready, walked-first, walked-last, walked_next, walked-fits}
use Rattle.symbol.proofs.places.data_places.Goals as goal
use Rattle.symbol.proofs.places.data_places.Goals.{At-loop-layer, In-loop-layer, Start}

ready : (c : In-loop-layer)
    → (let l = (goal.at.In-loop-layer c).At-loop-layer in
    let s = (goal.at.At-loop-layer l).Start in
    Ready s.args.shape.full s.args.shape.layers l.spread_lines-lines.result l.loop-layer.layer (length l.loop-layer.places))
ready c =
    let l = (goal.at.In-loop-layer c).At-loop-layer in
    let s = l in
    record {
      shaped = s.args.shape.shaped;
      lined = l.spread_lines-lines.ensures;
      walked = l.loop-layer.invariant.0;
      some = c.loop-layer-test.true;
      fits = omega (arith, s.requires, simp length-writes at (ap length l.loop-layer.invariant.1));
    }

pub loop-layer-init : goal.loop-layer-init
loop-layer-init c = (walked-first _ _ _ c.square.ensures, writes-none _ _ _)

pub inward-layer-requires : goal.inward-layer-requires
inward-layer-requires c =
    let t = (goal.at.inward-layer-requires c).In-loop-layer in
    let w = t.loop-layer.invariant.0 in
    let s = t in (
      t.loop-layer-test.true,
      omega (arith, w.large),
      omega (arith, w.around, square-most _ _ s.args.shape.shaped),
      omega (arith, walked-fits (ready t)),
    )

pub loop-layer-preserved : goal.loop-layer-preserved
loop-layer-preserved c =
    let t = (goal.at.loop-layer-preserved c).In-loop-layer in
    let l = t.loop-layer in (
      subst (Walked _ _) (sym c.inward-layer.ensures) (walked_next (ready t)),
      writes_more _ _ _ l.layer.first (4 * run l.layer) _ l.invariant.1 c.layer_places.ensures
          (omega (arith, ap (λ (x : Layer). x.first) c.inward-layer.ensures)),
    )

pub returns : goal.returns
returns c =
    let i = c.loop-layer.invariant in
    rw (walked-last i.0 (omega arith)) at i.1
