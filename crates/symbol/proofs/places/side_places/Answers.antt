-- The places of the first j dominoes are written.
-- Assumes nothing.
use Rattle.std.proofs.Common.{◌≡◌, refl, ap, ℕ, ◌+◌, ◌*◌, ◌≤◌, ◌<◌, mul-le-mul_right, arith, length, length-set}
use Rattle.list_laws.specs.Writes.{writes-none, writes-step, length-writes}
use Rattle.symbol.specs.declared.places.Layer.{Layer}
use Rattle.symbol.specs.Places.{Cell, domino, shifted, data_place}
use Rattle.symbol.specs.Walk.{InTable, table_place, run, walked-fits, walked-index, walked-in-table, walked-place}
use Rattle.symbol.proofs.places.side_places.Goals as goal
use Rattle.symbol.proofs.places.side_places.Goals.{After-side-n, In-loop-j, Start}

start-lt : (c : Start) → (let x = c.args.layer in x.first + c.args.s * run x + run x ≤ 19968)
start-lt c = omega (arith, walked-fits c.requires.0, mul-le-mul_right (run c.args.layer) c.requires.1)

-- bit b of the domino, the side's bit m
module _ (c : In-loop-j) (b m : ℕ) (h : b < 2) (d : m ≡ 2 * c.loop-j.j + b) where
  abbrev sided : After-side-n
  sided = (goal.at.In-loop-j c).After-side-n

  abbrev start : Start
  start = (goal.at.After-side-n sided).Start

  abbrev layer : Layer
  layer = start.args.layer

  index-lt : (let i = layer.first + (start.args.s * run layer + m) in (i < length start.args.places.now) × (i < 19968))
  index-lt = walked-index start.requires.0 start.args.s c.loop-j.j b m start.requires.1 c.loop-j-test.true h d

  abbrev here : Cell
  here = shifted layer.outer (domino start.args.s layer.square c.loop-j.j b)

  in_table : InTable start.args.lines.now sided.side-n.result here
  in_table =
      walked-in-table start.requires.0 start.args.s c.loop-j.j b m start.requires.1 c.loop-j-test.true h d sided.side-n.ensures

  place_is : {v : ℕ} → v ≡ table_place start.args.lines.now sided.side-n.result here
      → v ≡ data_place start.args.shape.full start.args.shape.layers (layer.first + (start.args.s * run layer + m))
  place_is e =
      walked-place start.requires.0 start.args.s c.loop-j.j b m start.requires.1 c.loop-j-test.true h d sided.side-n.ensures e

pub overflow_mul-start : goal.overflow_mul-start
overflow_mul-start c = omega (arith, start-lt (goal.at.overflow_mul-start c).Start)

pub overflow_mul-start-2 : goal.overflow_mul-start-2
overflow_mul-start-2 c = omega (arith, start-lt (goal.at.overflow_mul-start-2 c).Start)

pub overflow_add-start : goal.overflow_add-start
overflow_add-start c = omega (arith, start-lt (goal.at.overflow_add-start c).Start)

pub loop-j-init : goal.loop-j-init
loop-j-init c = writes-none _ _ _

pub overflow_mul-at : goal.overflow_mul-at
overflow_mul-at c = omega (arith, index-lt c 0 _ (omega arith) refl)

pub overflow_add-at : goal.overflow_add-at
overflow_add-at c = omega (arith, index-lt c 0 _ (omega arith) refl)

pub bit_place-requires-clause-in_table : goal.bit_place-requires-clause-in_table
bit_place-requires-clause-in_table c = in_table (goal.at.bit_place-requires-clause-in_table c).In-loop-j _ _ (omega arith) refl

pub bit_place-requires-in-loop-j-clause-in_table : goal.bit_place-requires-in-loop-j-clause-in_table
bit_place-requires-in-loop-j-clause-in_table c =
    in_table (goal.at.bit_place-requires-in-loop-j-clause-in_table c).In-loop-j _ _ (omega arith) refl

pub offset_bounds-places-at : goal.offset_bounds-places-at
offset_bounds-places-at c = omega (arith, index-lt (goal.at.offset_bounds-places-at c).In-loop-j 0 _ (omega arith) refl)

pub bounds-places-at : goal.bounds-places-at
bounds-places-at c =
    omega (arith, index-lt (goal.at.bounds-places-at c).In-loop-j 0 _ (omega arith) refl, simp length-writes at (ap length c.loop-j.invariant))

pub overflow_add-places : goal.overflow_add-places
overflow_add-places c = omega (arith, index-lt (goal.at.overflow_add-places c).In-loop-j 1 _ (omega arith) refl)

pub offset_bounds-places-at-in-loop-j : goal.offset_bounds-places-at-in-loop-j
offset_bounds-places-at-in-loop-j c = omega (arith, index-lt (goal.at.offset_bounds-places-at-in-loop-j c).In-loop-j 1 _ (omega arith) refl)

pub bounds-places-at-in-loop-j : goal.bounds-places-at-in-loop-j
bounds-places-at-in-loop-j c =
    simp length-set
    (omega (arith, index-lt (goal.at.bounds-places-at-in-loop-j c).In-loop-j 1 _ (omega arith) refl, simp length-writes at (ap length c.loop-j.invariant)))

pub loop-j-preserved : goal.loop-j-preserved
loop-j-preserved c =
    let l = (goal.at.loop-j-preserved c).In-loop-j in
    let j = l.loop-j.j in
    let e : 2 * j + 1 + 1 ≡ 2 * (j + 1) = omega arith in
    rw (← e) (writes-step _ _ _ (2 * j + 1)
    (writes-step _ _ _ (2 * j) l.loop-j.invariant (omega arith)
    (place_is l 0 (2 * j) (omega arith) (omega arith) c.bit_place.ensures))
    (omega arith) (place_is l 1 (2 * j + 1) (omega arith) refl c.bit_place-in-loop-j.ensures))
