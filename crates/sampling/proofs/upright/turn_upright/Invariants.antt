-- The first rows are written.
-- Assumes nothing.
use Rattle.std.proofs.Common.{◌≡◌, ◌*◌, length}
use Rattle.list_laws.specs.Writes.{writes}
use Rattle.symbol.specs.GridWords.{module_at}
use Rattle.sampling.proofs.upright.turn_upright.Given as goal

abbrev pub invariant-loop-row : goal.invariant-loop-row
invariant-loop-row l =
    (length l.upright ≡ length l.initial.upright) × (l.upright ≡ writes l.initial.upright (λ k. k) (module_at l.n l.position.number l.grid) (l.row * l.n))
