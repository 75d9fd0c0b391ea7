-- As in push_rows, with one byte for each column; then the line feed.
-- Assumes nothing.
use Rattle.std.proofs.Common.{◌≡◌, ap, ◌∙◌, ◌+◌, ◌++◌, ◌∷◌, [], arith, length}
use Rattle.list_laws.specs.Putting.{at_front}
use Rattle.picture.specs.Picture.{digit_of, joined, pixel, pbm_row}
use Rattle.picture.specs.PictureLaws.{grown_next, grown-start}
use Rattle.picture.proofs.pbm_row.Goals as goal

pub loop-column-init : goal.loop-column-init
loop-column-init c = record {
  cells = c.new-text.ensures ∙ grown-start (pixel c.args.square.now.grid.now c.args.square.now.side c.args.row) [];
  count = ap length c.new-text.ensures;
}

pub loop-column-preserved : goal.loop-column-preserved
loop-column-preserved c =
    let l = c.loop-column in record {
      cells =
          grown_next (pixel c.args.square.now.grid.now c.args.square.now.side c.args.row) l.column [] l.invariant.cells c.push.ensures.put
          (ap (λ x. x ∷ []) (c.digit.ensures ∙ ap digit_of c.is_dark.ensures));
      count = omega arith;
    }

pub push-requires-2 : goal.push-requires-2
push-requires-2 c = omega (arith, c.loop-column.invariant.count)

pub put_front-requires : goal.put_front-requires
put_front-requires c = omega (arith, c.loop-column.invariant.count)

pub returns : goal.returns
unfolding pbm_row
returns c =
    let l = c.loop-column in
    let f = pixel c.args.square.now.grid.now c.args.square.now.side c.args.row in
    let k : l.column ≡ c.args.square.now.side + 4 = omega arith in
    let whole = c.push-2.ensures.put ∙ ap (λ t. t ++ 10 ∷ []) (l.invariant.cells ∙ ap (joined f) k) in record {
      value = c.put_front.ensures.value ∙ ap length whole;
      line_after = c.put_front.ensures.buffer_after ∙ ap (λ t. at_front t c.args.line.now) whole;
      upper_bound = omega (arith, l.invariant.count);
    }
