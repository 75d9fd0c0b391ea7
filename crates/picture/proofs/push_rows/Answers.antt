-- What stands after some columns is their characters, and no character has more than three bytes.
-- Assumes nothing.
use Rattle.std.proofs.Common.{ap, ap₂, ◌∙◌, ℕ, arith, length, length-append}
use Rattle.picture.specs.Picture.{glyph, two_rows}
use Rattle.picture.specs.PictureLaws.{grown_next, grown-start, rows-length}
use Rattle.picture.proofs.push_rows.Goals as goal

pub loop-column-init : goal.loop-column-init
loop-column-init c = grown-start (two_rows c.args.square.now.grid.now c.args.square.now.side c.args.row) c.args.line.now

pub push_all-requires : goal.push_all-requires
push_all-requires c =
    omega (arith, ap length c.loop-column.invariant, length-append {A = ℕ}, rows-length c.args.square.now.grid.now c.args.square.now.side c.args.row c.loop-column.column, c.glyph.ensures.upper_bound)

pub loop-column-preserved : goal.loop-column-preserved
loop-column-preserved c =
    let f = two_rows c.args.square.now.grid.now c.args.square.now.side c.args.row in
    grown_next f c.loop-column.column c.args.line.now c.loop-column.invariant c.push_all.ensures.put
    (c.glyph.ensures.value ∙ ap₂ glyph c.is_dark-top.ensures c.is_dark-bottom.ensures)
