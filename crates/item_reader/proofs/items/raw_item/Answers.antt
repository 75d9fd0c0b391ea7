-- The bytes are whole or cut short.
-- Assumes nothing.
use Rattle.std.proofs.Common.{sym, arith}
use Rattle.stream.specs.ItemLaws.{whole, cut_short}
use Rattle.item_reader.proofs.items.raw_item.Goals as goal

pub returns-then-n-left : goal.returns-then-n-left
returns-then-n-left c = sym (whole _ _ _ (omega arith))

pub returns : goal.returns
returns c = sym (cut_short _ _ _ (omega arith))
