-- The first a lines are written.
-- Assumes nothing.
use Rattle.std.proofs.Common.{◌≡◌, refl, ◌≤◌, arith, replicate}
use Rattle.list_laws.specs.Writes.{writes-none, writes-step}
use Rattle.symbol.specs.Shapes.{square}
use Rattle.symbol.specs.DataPlaces.{side-most, square-most, spread-lt}
use Rattle.symbol.specs.Walk.{lined}
use Rattle.symbol.proofs.places.spread_lines.Goals as goal
use Rattle.symbol.proofs.places.spread_lines.Goals.{After-square-a-end}

below : (c : After-square-a-end) → c.square-a-end.result ≤ 142
below c = omega (arith, c.square-a-end.ensures, square-most _ _ c.args.shape.shaped)

pub loop-a-init : goal.loop-a-init
loop-a-init c = writes-none _ _ _

pub spread_of-requires : goal.spread_of-requires
spread_of-requires c = omega (arith, below (goal.at.spread_of-requires c).After-square-a-end)

pub overflow_cast-lines : goal.overflow_cast-lines
overflow_cast-lines c =
    let q = (goal.at.overflow_cast-lines c).After-square-a-end in
    let s = q in
    let f = s.args.shape.full in
    let L = s.args.shape.layers in
    omega (arith, c.spread_of.ensures, spread-lt f L c.loop-a.a s.args.shape.shaped (omega (arith, q.square-a-end.ensures)), side-most f L s.args.shape.shaped)

pub offset_bounds-lines-a : goal.offset_bounds-lines-a
offset_bounds-lines-a c = omega (arith, below (goal.at.offset_bounds-lines-a c).After-square-a-end)

pub bounds-lines-a : goal.bounds-lines-a
bounds-lines-a c = omega (arith, below (goal.at.bounds-lines-a c).After-square-a-end)

pub loop-a-preserved : goal.loop-a-preserved
loop-a-preserved c = let l = c.loop-a in writes-step _ _ _ l.a l.invariant refl c.spread_of.ensures

pub returns : goal.returns
returns c =
    let l = c.loop-a in
    let e : l.a ≡ square c.args.shape.full c.args.shape.layers = omega (arith, c.square-a-end.ensures) in
    lined _ _ (replicate 142 0) (square-most _ _ c.args.shape.shaped) (rw e at l.invariant)
