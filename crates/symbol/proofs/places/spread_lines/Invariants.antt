-- The first a lines are written.
-- Assumes nothing.
use Rattle.std.proofs.Common.{◌≡◌, ℕ, replicate}
use Rattle.list_laws.specs.Writes.{writes}
use Rattle.symbol.specs.Places.{spread}
use Rattle.symbol.proofs.places.spread_lines.Given as goal

abbrev pub invariant-loop-a : goal.invariant-loop-a
invariant-loop-a l = l.lines ≡ writes (replicate 142 0) (λ (a : ℕ). a) (spread l.shape.full l.shape.layers) l.a
