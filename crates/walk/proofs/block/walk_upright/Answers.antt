-- What the mode message says is what the definition reads, and the fronts of the buffers are as long as the block.
-- Assumes nothing.
use Rattle.std.proofs.Common.{◌≡◌, Option, Some, refl, sym, ap, ◌∙◌, subst, true, List, ◌++◌, ℕ, ◌+◌, ◌*◌, ◌≤◌, arith, length, take, drop, replicate, length-take-le}
use Rattle.symbol.specs.Shapes.{side, words}
use Rattle.symbol.specs.DataPlaces.{most-layers}
use Rattle.encoder.specs.EncodeLaws.{words-all}
use Rattle.recovery.specs.Stages.{lawful_mode}
use Rattle.recovery.specs.FailedMode.{none-lawful}
use Rattle.walk.specs.declared.mode.Said.{Said}
use Rattle.walk.specs.Walk.{Walk, layout_of, Left}
use Rattle.walk.specs.Told.{walked-ended}
use Rattle.walk.specs.BlockLaws.{walk-lawful, walk-failed, left-longer}
use Rattle.walk.specs.Upright.{said_of, mode_of, said_walk, Sayable, sayable, lawful-parts}
use Rattle.walk.proofs.block.walk_upright.Goals as goal
use Rattle.walk.proofs.block.walk_upright.Goals.{In-Some, In_default-failed_of, After-words-count}

module _ (c : In-Some) where
  abbrev here : Option Said → Walk
  here = let f = c.args.frame in said_walk c.args.upright.now f.full f.side c.args.position

  is : (let f = c.args.frame in said_of f.full (mode_of c.args.upright.now f.full f.side) ≡ Some c.in-Some.said)
  is = sym c.in-Some.ensures

  can : Sayable c.args.frame.full c.in-Some.said.layers c.in-Some.said.data_words
  can = let f = c.args.frame in sayable c.args.upright.now f.full f.side is

pub invariant_of-shape : goal.invariant_of-shape
invariant_of-shape c = record { shaped = (can (goal.at.invariant_of-shape c).In-Some).shaped }

pub failed_of-requires : goal.failed_of-requires
failed_of-requires c =
    let s = can (goal.at.failed_of-requires c).In-Some in (most-layers c.args.frame.full c.in-Some.said.layers s.shaped, s.most)

pub returns-in-Some-failed_of : goal.returns-in-Some-failed_of
returns-in-Some-failed_of c =
    let k = (goal.at.returns-in-Some-failed_of c).In-Some in
    let f = c.args.frame in
    walked-ended _ c.args.buffers.now
    (ap (here k) (is k)
    ∙ walk-failed (layout_of f.full c.in-Some.said.layers c.args.position c.in-Some.said.data_words) _ _ f.side
    (sym c.in-Some-failed_of.ensures.value))

-- a lawful mode message
lawful : (c : In_default-failed_of) → (let f = c.args.frame in
    lawful_mode f.full f.side c.in-Some.said.layers c.in-Some.said.data_words ≡ true)
lawful c =
    let f = c.args.frame in
    none-lawful f.full f.side c.in-Some.said.layers c.in-Some.said.data_words (sym c.in_default-failed_of.ensures.value)

parts : (c : In_default-failed_of) → (let f = c.args.frame in let s = c.in-Some.said in
    (side f.full s.layers ≡ f.side) × (s.data_words + 3 ≤ words f.full s.layers))
parts c =
    let f = c.args.frame in lawful-parts f.full f.side c.in-Some.said.layers c.in-Some.said.data_words (lawful c)

pub invariant_of-layout : goal.invariant_of-layout
invariant_of-layout c =
    record {
      least = (can (goal.at.invariant_of-layout c).In-Some).least;
      checked = (parts (goal.at.invariant_of-layout c).In_default-failed_of).1;
    }

-- the block's words fit any buffer
module _ (c : After-words-count) where
  few : c.words-count.result ≤ 1664
  few =
      let f = c.args.frame.full in
      omega (arith, c.words-count.ensures, words-all f c.in-Some.said.layers (can (goal.at.After-words-count c).In-Some).shaped)

  front : (l : List ℕ) → 1664 ≤ length l → length (take c.words-count.result l) ≡ c.words-count.result
  front l h = length-take-le c.words-count.result l (omega (arith, few))

  fits : (l : List ℕ) → 1664 ≤ length l → c.words-count.result ≤ length l
  fits l h = omega (arith, few)

  marked : length {A = ℕ} (take c.words-count.result (replicate 1664 0)) ≡ c.words-count.result
  marked = length-take-le {A = ℕ} c.words-count.result (replicate 1664 0) few

pub slice_bounds-walk_block-end : goal.slice_bounds-walk_block-end
slice_bounds-walk_block-end c =
    let b = c.args.buffers.now in fits (goal.at.slice_bounds-walk_block-end c).After-words-count b.received.now b.rooms.received-room

pub slice_bounds-walk_block-end-2 : goal.slice_bounds-walk_block-end-2
slice_bounds-walk_block-end-2 c =
    let b = c.args.buffers.now in sym (front (goal.at.slice_bounds-walk_block-end-2 c).After-words-count b.received.now b.rooms.received-room)

pub slice_bounds-walk_block-end-3 : goal.slice_bounds-walk_block-end-3
slice_bounds-walk_block-end-3 c =
    let b = c.args.buffers.now in fits (goal.at.slice_bounds-walk_block-end-3 c).After-words-count b.unread.now b.rooms.unread-room

pub slice_bounds-walk_block-end-4 : goal.slice_bounds-walk_block-end-4
slice_bounds-walk_block-end-4 c =
    let b = c.args.buffers.now in sym (front (goal.at.slice_bounds-walk_block-end-4 c).After-words-count b.unread.now b.rooms.unread-room)

pub slice_bounds-marks-end : goal.slice_bounds-marks-end
slice_bounds-marks-end c = few (goal.at.slice_bounds-marks-end c).After-words-count

pub slice_bounds-walk_block-end-5 : goal.slice_bounds-walk_block-end-5
slice_bounds-walk_block-end-5 c = sym (marked (goal.at.slice_bounds-walk_block-end-5 c).After-words-count)

pub slice_bounds-walk_block-end-6 : goal.slice_bounds-walk_block-end-6
slice_bounds-walk_block-end-6 c =
    let b = c.args.buffers.now in fits (goal.at.slice_bounds-walk_block-end-6 c).After-words-count b.found.now b.rooms.found-room

pub slice_bounds-walk_block-end-7 : goal.slice_bounds-walk_block-end-7
slice_bounds-walk_block-end-7 c =
    let b = c.args.buffers.now in sym (front (goal.at.slice_bounds-walk_block-end-7 c).After-words-count b.found.now b.rooms.found-room)

pub walk_block-requires : goal.walk_block-requires
walk_block-requires c =
    let w = (goal.at.walk_block-requires c).After-words-count in
    let b = c.args.buffers.now in
    let e = c.words-count.ensures in record {
      upright_len =
          subst (λ m. m * m ≤ length c.args.upright.now) (sym (parts (goal.at.walk_block-requires c).In_default-failed_of).0) c.requires;
      received_len = (front w b.received.now b.rooms.received-room ∙ e, front w b.unread.now b.rooms.unread-room ∙ e);
      marks_len = (marked w ∙ e, front w b.found.now b.rooms.found-room ∙ e);
    }

pub returns : goal.returns
returns c =
    let k = (goal.at.returns c).In-Some in
    let f = c.args.frame in
    let l = c.walk_block.new in
    let b = c.args.buffers.now in
    let n = c.words-count.result in
    let e =
    ap (here k) (is k)
    ∙ walk-lawful (layout_of f.full c.in-Some.said.layers c.args.position c.in-Some.said.data_words) _ _ f.side
    (lawful (goal.at.returns c).In_default-failed_of) in record {
      value = c.walk_block.ensures.value ∙ sym (ap (λ (w : Walk). w.outcome) e);
      left =
          subst (λ x. Left x (l.received ++ drop n b.received.now) (l.unread ++ drop n b.unread.now) (l.found ++ drop n b.found.now)) (sym e)
          (left-longer _ l.received l.unread l.found _ _ _ c.walk_block.ensures.left);
      same = record { received = refl; unread = refl; found = refl };
    }
