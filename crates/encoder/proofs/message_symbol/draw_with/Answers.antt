-- What is drawn is the message's block and mode words.
-- Assumes nothing.
use Rattle.std.proofs.Common.{ap, ap₂, ◌∙◌}
use Rattle.symbol.specs.Drawing.{drawn}
use Rattle.encoder.specs.ModeMessage.{mode_codewords}
use Rattle.encoder.specs.Encode.{drawn_message}
use Rattle.encoder.proofs.message_symbol.draw_with.Goals as goal

pub returns : goal.returns
unfolding drawn_message
returns c =
    c.draw.ensures
    ∙ ap₂ (λ ms ws. drawn c.args.shape.full c.args.shape.layers ms ws c.args.grid.now)
    (c.fill_mode_words.ensures ∙ ap (mode_codewords c.args.shape.full c.args.shape.layers) c.requires.fitting_1.count)
    c.fill_block.ensures
