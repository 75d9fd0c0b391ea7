-- The places of the first j dominoes are written.
-- Assumes nothing.
use Rattle.std.proofs.Common.{◌≡◌, ℕ, ◌+◌, ◌*◌}
use Rattle.list_laws.specs.Writes.{writes}
use Rattle.symbol.specs.Places.{data_place}
use Rattle.symbol.specs.Walk.{run}
use Rattle.symbol.proofs.places.side_places.Given as goal

abbrev pub invariant-loop-j : goal.invariant-loop-j
invariant-loop-j l =
    l.places ≡ writes l.initial.places (λ (m : ℕ). l.layer.first + (l.s * run l.layer + m)) (λ (m : ℕ). data_place l.fn.shape.full l.fn.shape.layers (l.layer.first + (l.s * run l.layer + m))) (2 * l.j)
