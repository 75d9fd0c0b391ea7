-- The bits of the positions from p on, below them none.
-- Assumes nothing.
use Rattle.std.proofs.Common.{◌≡◌, Bool, List, ℕ, ◌-◌, ◌≤◌, eqb, get_or}
use Rattle.orientation.specs.Masks.{mask_from}
use Rattle.orientation.proofs.position.positions_with.Given as goal

abbrev pub has : ℕ → List ℕ → ℕ → Bool
has most counts q = eqb (get_or counts q 0) most

abbrev pub invariant-loop-p : goal.invariant-loop-p
invariant-loop-p l = (l.p ≤ 8) × (l.mask ≡ mask_from (has l.most l.counts) l.p (8 - l.p))

abbrev pub decreases-loop-p : goal.decreases-loop-p
decreases-loop-p l = l.p
