-- The table of the data bits' places, and the block's words after the skipped bits.
-- Assumes nothing.
use Rattle.std.proofs.Common.{◌≡◌, ap₂, ◌∙◌, ◌+◌, ◌*◌, arith, length, replicate}
use Rattle.list_laws.specs.Writes.{writes}
use Rattle.symbol.specs.Shapes.{bits, word-size-range}
use Rattle.symbol.specs.Places.{data_place}
use Rattle.symbol.specs.DataPlaces.{data-lt}
use Rattle.symbol.specs.Drawing.{words_bit, with_block}
use Rattle.symbol.specs.GridWords.{block-bits}
use Rattle.symbol.specs.Tables.{table_fits, table-draws}
use Rattle.drawing.proofs.draw_within.Goals as goal
use Rattle.drawing.proofs.draw_within.Goals.{After-skipped}

all-bits : (g : _) (c : After-skipped g)
    → let a = c.args in
    c.skipped.result + length a.block.now * c.word_size.result ≡ bits a.shape.full a.shape.layers
all-bits g c = block-bits c.args.shape.full c.args.shape.layers c.skipped.ensures c.requires.1 c.word_size.ensures

pub draw_words-requires : goal.draw_words-requires
draw_words-requires g c =
    let e = (goal.at.draw_words-requires g c).After-skipped in
    let s = c.args.shape in record {
      le_size = (omega (arith, word-size-range s.layers), omega (arith, word-size-range s.layers), omega (arith, all-bits g e));
      places_fit = table_fits (replicate g.row.ROOM 0) (data_place s.full s.layers) (bits s.full s.layers) (omega arith) c.data_places.ensures (all-bits g e) _
          (λ i h. omega (arith, c.requires.0, data-lt s.full s.layers s.shaped i h));
    }

pub returns : goal.returns
unfolding with_block
returns g c =
    let e = (goal.at.returns g c).After-skipped in
    let s = c.args.shape in
    let place = data_place s.full s.layers in
    table-draws (replicate g.row.ROOM 0) place (bits s.full s.layers) (omega arith) c.data_places.ensures (all-bits g e) c.args.grid.now
    (words_bit c.word_size.result c.skipped.result c.args.block.now) c.draw_words.ensures
    ∙ ap₂ (λ b skip. writes c.args.grid.now place (words_bit b skip c.args.block.now) (bits s.full s.layers))
    c.word_size.ensures c.skipped.ensures
