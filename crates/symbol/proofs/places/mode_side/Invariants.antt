-- The first j places are written.
-- Assumes nothing.
use Rattle.std.proofs.Common.{◌≡◌, ℕ, ◌+◌, ◌*◌}
use Rattle.list_laws.specs.Writes.{writes}
use Rattle.symbol.specs.Places.{mode_place}
use Rattle.symbol.proofs.places.mode_side.Given as goal

abbrev pub invariant-loop-j : goal.invariant-loop-j
invariant-loop-j l = l.places ≡ writes l.initial.places (λ (j : ℕ). l.s * l.run + j) (λ (j : ℕ). mode_place l.frame.full l.frame.side (l.s * l.run + j)) l.j
