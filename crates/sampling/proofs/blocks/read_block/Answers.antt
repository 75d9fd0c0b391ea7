-- Four layers have at most as many bits as the small table, and no symbol more than the large one.
-- Assumes nothing.
use Rattle.std.proofs.Common.{arith}
use Rattle.symbol.specs.Shapes.{bits_most, few_bits}
use Rattle.symbol.specs.DataPlaces.{most-layers}
use Rattle.sampling.proofs.blocks.read_block.Goals as goal

pub read_within-requires : goal.read_within-requires
read_within-requires c =
    let s = c.args.shape in record {
      upright_len = (c.requires.upright_len, few_bits s.full s.layers c.if-shape-le4.true, omega arith);
      block_len = c.requires.block_len;
    }

pub read_within-requires-2 : goal.read_within-requires-2
read_within-requires-2 c =
    let s = c.args.shape in record {
      upright_len = (c.requires.upright_len, bits_most s.full s.layers (most-layers s.full s.layers s.shaped), omega arith);
      block_len = c.requires.block_len;
    }
