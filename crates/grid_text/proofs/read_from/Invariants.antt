-- After some bytes the reading stands where the definition says, and the modules met are stored.
-- Assumes nothing.
use Rattle.std.proofs.Common.{◌≡◌, ◌≤◌, take}
use Rattle.list_laws.specs.Putting.{Put}
use Rattle.grid_text.specs.Grid.{after, modules}
use Rattle.grid_text.proofs.read_from.Given as goal

abbrev pub invariant-loop-byte : goal.invariant-loop-byte
invariant-loop-byte l = record {
  in_range : l.at ≤ l.byte-index;
  stands : l.scan ≡ after l.initial.scan (take l.byte-index l.bytes);
  stored : Put (modules l.initial.scan (take l.byte-index l.bytes)) l.initial.grid 0 l.grid l.at;
}
