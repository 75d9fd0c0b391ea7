-- As in push_rows, with one byte for each column.
-- Assumes nothing.
use Rattle.std.proofs.Common.{◌≡◌, length}
use Rattle.picture.specs.Picture.{joined, pixel}
use Rattle.picture.proofs.pbm_row.Given as goal

abbrev pub invariant-loop-column : goal.invariant-loop-column
invariant-loop-column l = record {
  cells : l.text ≡ joined (pixel l.square.grid.now l.square.side l.row) l.column;
  count : length l.text ≡ l.column;
}
