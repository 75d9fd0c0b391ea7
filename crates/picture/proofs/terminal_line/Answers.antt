-- The test picks the line; no line has more than 512 bytes.
-- Assumes nothing.
use Rattle.std.proofs.Common.{ap, ◌∙◌, arith, length, lt-ltb, le-ltb}
use Rattle.list_laws.specs.Putting.{at_front}
use Rattle.picture.specs.Picture.{terminal_line}
use Rattle.picture.specs.PictureLaws.{pair-length, half_length}
use Rattle.picture.proofs.terminal_line.Goals as goal

pub put_front-requires : goal.put_front-requires
put_front-requires c = omega (arith, ap length c.pair_line.ensures, pair-length c.args.square.now.grid.now c.args.square.now.side c.args.row (omega arith))

pub returns-then-row-square : goal.returns-then-row-square
unfolding terminal_line
returns-then-row-square c =
    let most = pair-length c.args.square.now.grid.now c.args.square.now.side c.args.row (omega arith) in
    let line = c.pair_line.ensures in record {
      value = rw (lt-ltb _ _ c.if-row-square.true) (c.put_front.ensures.value ∙ ap length line);
      line_after = rw (lt-ltb _ _ c.if-row-square.true) (c.put_front.ensures.buffer_after ∙ ap (λ t. at_front t c.args.line.now) line);
      upper_bound = omega (arith, ap length line, most);
    }

pub put_front-requires-2 : goal.put_front-requires-2
put_front-requires-2 c = omega (arith, ap length c.half_line.ensures, half_length c.args.square.now.side (omega arith))

pub returns : goal.returns
unfolding terminal_line
returns c =
    let most = half_length c.args.square.now.side (omega arith) in
    let line = c.half_line.ensures in record {
      value = rw (le-ltb _ _ c.if-row-square.false) (c.put_front-2.ensures.value ∙ ap length line);
      line_after = rw (le-ltb _ _ c.if-row-square.false) (c.put_front-2.ensures.buffer_after ∙ ap (λ t. at_front t c.args.line.now) line);
      upper_bound = omega (arith, ap length line, most);
    }
