-- The first w words' marks are written.
-- Assumes nothing.
use Rattle.std.proofs.Common.{◌≡◌, length}
use Rattle.list_laws.specs.Filled.{filled}
use Rattle.sampling.specs.Flat.{flat_mark}
use Rattle.sampling.proofs.flat.mark_flat.Given as goal

abbrev pub invariant-loop-w : goal.invariant-loop-w
invariant-loop-w l =
    (length l.marks ≡ length l.initial.marks) × (l.marks ≡ filled (flat_mark l.size l.words l.initial.marks) l.w l.initial.marks)
