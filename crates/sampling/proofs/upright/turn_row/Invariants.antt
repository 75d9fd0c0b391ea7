-- The first c modules of the row are written.
-- Assumes nothing.
use Rattle.std.proofs.Common.{◌≡◌, ◌+◌, ◌*◌, length}
use Rattle.list_laws.specs.Writes.{writes}
use Rattle.symbol.specs.GridWords.{module_at}
use Rattle.sampling.proofs.upright.turn_row.Given as goal

abbrev pub invariant-loop-c : goal.invariant-loop-c
invariant-loop-c l =
    (length l.upright ≡ length l.initial.upright)
    × (l.upright ≡ writes l.initial.upright (λ c. l.row * l.n + c) (λ c. module_at l.n l.fn.position.number l.grid (l.row * l.n + c)) l.c)
