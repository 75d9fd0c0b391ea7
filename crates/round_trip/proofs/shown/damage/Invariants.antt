-- The first k modules are changed.
-- Assumes nothing.
use Rattle.std.proofs.Common.{◌≡◌, List, ℕ, get_or}
use Rattle.list_laws.specs.Filled.{filled}
use Rattle.round_trip.specs.Changes.{changed_to}
use Rattle.round_trip.proofs.shown.damage.Given as goal

abbrev pub after : List ℕ → List ℕ → ℕ → ℕ
after changes tag k = changed_to (get_or tag k 0) (get_or changes k 3)

abbrev pub invariant-loop-k : goal.invariant-loop-k
invariant-loop-k l = l.tag ≡ filled (after l.changes l.initial.tag) l.k l.initial.tag
