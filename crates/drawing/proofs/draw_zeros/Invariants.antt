-- 0 stands at the places so far.
-- Assumes nothing.
use Rattle.std.proofs.Common.{◌≡◌, length, get_or}
use Rattle.list_laws.specs.Writes.{writes}
use Rattle.drawing.proofs.draw_zeros.Given as goal

abbrev pub invariant-loop-place : goal.invariant-loop-place
invariant-loop-place l = (length l.grid ≡ length l.initial.grid) × (l.grid ≡ writes l.initial.grid (λ k. get_or l.places k 0) (λ k. 0) l.place-index)
