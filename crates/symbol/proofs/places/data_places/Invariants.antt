-- The places of the layers outside of the next one are written.
-- Assumes nothing.
use Rattle.std.proofs.Common.{◌≡◌, ℕ}
use Rattle.list_laws.specs.Writes.{writes}
use Rattle.symbol.specs.Places.{data_place}
use Rattle.symbol.specs.Walk.{Walked}
use Rattle.symbol.proofs.places.data_places.Given as goal

abbrev pub invariant-loop-layer : goal.invariant-loop-layer
invariant-loop-layer l =
    Walked l.shape.full l.shape.layers l.layer × (l.places ≡ writes l.initial.places (λ (i : ℕ). i) (data_place l.shape.full l.shape.layers) l.layer.first)

abbrev pub decreases-loop-layer : goal.decreases-loop-layer
decreases-loop-layer l = l.layer.left
