-- The places of the first s sides are written.
-- Assumes nothing.
use Rattle.std.proofs.Common.{◌≡◌, ℕ, ◌+◌, ◌*◌}
use Rattle.list_laws.specs.Writes.{writes}
use Rattle.symbol.specs.Places.{data_place}
use Rattle.symbol.specs.Walk.{run}
use Rattle.symbol.proofs.places.layer_places.Given as goal

abbrev pub invariant-loop-s : goal.invariant-loop-s
invariant-loop-s l =
    l.places ≡ writes l.initial.places (λ (m : ℕ). l.layer.first + m) (λ (m : ℕ). data_place l.shape.full l.shape.layers (l.layer.first + m)) (l.s * run l.layer)
