-- Each part is drawn over what the parts before it have left.
-- Assumes nothing.
use Rattle.std.proofs.Common.{ap, ◌∙◌}
use Rattle.symbol.specs.Drawing.{with_orientation, with_mode, with_block, drawn}
use Rattle.drawing.proofs.draw.Goals as goal
use Rattle.drawing.proofs.draw.Goals.{After-draw_block, After-draw_mode, After-draw_orientation}

pub returns : goal.returns
unfolding drawn
returns c =
    let block = (goal.at.returns c).After-draw_block in
    let mode = (goal.at.After-draw_block block).After-draw_mode in
    let orientation = (goal.at.After-draw_mode mode).After-draw_orientation in
    let fixed = orientation in
    let a = fixed.args in
    block.draw_block.ensures
    ∙ ap (with_block a.shape.full a.shape.layers a.block.now)
    (mode.draw_mode.ensures
    ∙ ap (with_mode a.shape.full a.shape.layers a.mode_words.now)
    (orientation.draw_orientation.ensures ∙ ap (with_orientation a.shape.full a.shape.layers) fixed.draw_fixed.ensures))
