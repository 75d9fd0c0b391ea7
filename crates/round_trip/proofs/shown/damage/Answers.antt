-- The first k modules are changed.
-- Assumes nothing.
use Rattle.std.proofs.Common.{◌≡◌, ap, ◌∙◌, le_refl, arith, length, get_or}
use Rattle.list_laws.specs.Filled.{filled, filled_none, filled-step, filled-all, get_or-unfilled}
use Rattle.round_trip.specs.Changes.{changed_to, damaged}
use Rattle.round_trip.proofs.shown.damage.Goals as goal
use Rattle.round_trip.proofs.shown.damage.Invariants.{after}

pub loop-k-init : goal.loop-k-init
loop-k-init c = filled_none _ _

pub loop-k-preserved : goal.loop-k-preserved
loop-k-preserved c =
    let a = c.args in
    let k = c.loop-k.k in
    let f = after a.changes.now a.tag.now in
    let was = ap (λ t. get_or t k 0) c.loop-k.invariant ∙ get_or-unfilled f 0 k k a.tag.now (le_refl k) in
    filled-step f k _ c.loop-k.invariant (c.changed.ensures ∙ ap (λ m. changed_to m (get_or a.changes.now k 3)) was) (omega arith)

pub returns : goal.returns
unfolding damaged
returns c =
    let a = c.args in
    let f = after a.changes.now a.tag.now in
    let e : c.loop-k.k ≡ length a.tag.now = omega arith in
    c.loop-k.invariant ∙ ap (λ k. filled f k a.tag.now) e ∙ filled-all f a.tag.now
