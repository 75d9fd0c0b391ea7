-- The block is written up to i: each place holds what its mark says.
-- Assumes nothing.
use Rattle.std.proofs.Common.{◌≡◌, length}
use Rattle.list_laws.specs.Filled.{filled}
use Rattle.correction.specs.Steps.{written_at}
use Rattle.repair.proofs.write.Given as goal

abbrev pub invariant-loop-i : goal.invariant-loop-i
invariant-loop-i l =
    (length l.corrected ≡ length l.received)
    × (l.corrected ≡ filled (written_at l.received l.marks l.corrections) l.i l.initial.corrected)
