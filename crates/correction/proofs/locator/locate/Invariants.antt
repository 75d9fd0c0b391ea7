-- The loop keeps what algebra's does; length and place grow together, to twice t at most.
-- Assumes nothing.
use Rattle.std.proofs.Common.{◌≡◌, ◌+◌, ◌-◌, length}
use Rattle.finite_field.specs.Field.{size_of}
use Rattle.correction.specs.Steps as steps
use Rattle.correction.proofs.locator.locate.Given as goal

abbrev pub invariant-loop-state : goal.invariant-loop-state
invariant-loop-state l =
    (length l.p ≡ length l.initial.p)
    × ((length l.q ≡ length l.initial.q) × steps.Locating (size_of l.field.size) l.t l.u l.p l.q l.state.length l.state.place l.state.scale)

abbrev pub decreases-loop-state : goal.decreases-loop-state
decreases-loop-state l = l.t + l.t - (l.state.length + l.state.place)
