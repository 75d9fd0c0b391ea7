-- The table of the data bits' places, and the block's words after the skipped bits.
-- Assumes nothing.
use Rattle.std.proofs.Common.{◌≡◌, ◌+◌, ◌*◌, arith, length, replicate}
use Rattle.symbol.specs.Shapes.{bits, word-size-range}
use Rattle.symbol.specs.Places.{data_place}
use Rattle.symbol.specs.DataPlaces.{data-lt}
use Rattle.symbol.specs.GridWords.{block-bits}
use Rattle.symbol.specs.Tables.{table_fits}
use Rattle.sampling.proofs.TableWords.{block-values, block-marks}
use Rattle.sampling.proofs.blocks.read_within.Goals as goal
use Rattle.sampling.proofs.blocks.read_within.Goals.{After-skipped}

all-bits : (g : _) (c : After-skipped g)
    → let a = c.args in
    c.skipped.result + length a.block.now * c.word_size.result ≡ bits a.shape.full a.shape.layers
all-bits g c = block-bits c.args.shape.full c.args.shape.layers c.skipped.ensures c.requires.block_len.0 c.word_size.ensures

pub read_words-requires : goal.read_words-requires
read_words-requires g c =
    let e = (goal.at.read_words-requires g c).After-skipped in
    let s = c.args.shape in
    let size = word-size-range s.layers in record {
      le_size = (omega arith, omega arith, omega (arith, c.requires.block_len), omega (arith, all-bits g e));
      places_fit = table_fits (replicate g.row.ROOM 0) (data_place s.full s.layers) (bits s.full s.layers) (omega arith) c.data_places.ensures
          (all-bits g e) _ (λ i h. omega (arith, c.requires.upright_len, data-lt s.full s.layers s.shaped i h));
    }

pub returns : goal.returns
returns g c =
    let s = c.args.shape in
    let u = c.args.upright.now in
    let table = replicate g.row.ROOM 0 in
    let size = c.word_size.ensures in
    let skip = c.skipped.ensures in record {
      block_after = block-values s.full s.layers u table (omega arith) c.data_places.ensures size skip c.requires.block_len.0 c.read_words.ensures.words_after;
      marks_after = block-marks s.full s.layers u table (omega arith) c.data_places.ensures size skip c.requires.block_len.0 c.read_words.ensures.marks_after;
    }
