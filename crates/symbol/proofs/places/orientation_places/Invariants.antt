-- The first k places are written.
-- Assumes nothing.
use Rattle.std.proofs.Common.{◌≡◌, ℕ}
use Rattle.list_laws.specs.Writes.{writes}
use Rattle.symbol.specs.Places.{orientation_place}
use Rattle.symbol.proofs.places.orientation_places.Given as goal

abbrev pub invariant-loop-k : goal.invariant-loop-k
invariant-loop-k l = l.places ≡ writes l.initial.places (λ (i : ℕ). i) (orientation_place l.frame.full l.frame.side) l.k
