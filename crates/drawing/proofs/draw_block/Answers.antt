-- Four layers have at most as many bits as the small table, and no symbol more than the large one.
-- Assumes nothing.
use Rattle.std.proofs.Common.{arith}
use Rattle.symbol.specs.Shapes.{bits_most, few_bits}
use Rattle.symbol.specs.DataPlaces.{most-layers}
use Rattle.drawing.proofs.draw_block.Goals as goal

pub draw_within-requires : goal.draw_within-requires
draw_within-requires c =
    let s = c.args.shape in
    (c.requires.0, c.requires.1, few_bits s.full s.layers c.if-shape-le4.true, omega arith)

pub draw_within-requires-2 : goal.draw_within-requires-2
draw_within-requires-2 c =
    let s = c.args.shape in
    (c.requires.0, c.requires.1, bits_most s.full s.layers (most-layers s.full s.layers s.shaped), omega arith)
