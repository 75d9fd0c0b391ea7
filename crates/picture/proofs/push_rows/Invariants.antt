-- What stands after some columns is their characters.
-- Assumes nothing.
use Rattle.std.proofs.Common.{◌≡◌, ◌++◌}
use Rattle.picture.specs.Picture.{joined, two_rows}
use Rattle.picture.proofs.push_rows.Given as goal

abbrev pub invariant-loop-column : goal.invariant-loop-column
invariant-loop-column l = l.line ≡ l.initial.line ++ joined (two_rows l.square.grid.now l.square.side l.row) l.column
