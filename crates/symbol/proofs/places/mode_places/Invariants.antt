-- The places of the first s sides are written.
-- Assumes nothing.
use Rattle.std.proofs.Common.{◌≡◌, ℕ, ◌*◌}
use Rattle.list_laws.specs.Writes.{writes}
use Rattle.symbol.specs.Places.{mode_run, mode_place}
use Rattle.symbol.proofs.places.mode_places.Given as goal

abbrev pub invariant-loop-s : goal.invariant-loop-s
invariant-loop-s l = (l.run ≡ mode_run l.frame.full) × (l.places ≡ writes l.initial.places (λ (k : ℕ). k) (mode_place l.frame.full l.frame.side) (l.s * l.run))
