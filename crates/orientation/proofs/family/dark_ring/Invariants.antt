-- The dark modules of the first k.
-- Assumes nothing.
use Rattle.std.proofs.Common.{◌≡◌, Bool, false, List, ℕ, eqb, get_or}
use Rattle.list_laws.specs.Range.{count}
use Rattle.symbol.specs.Places.{core_place}
use Rattle.orientation.specs.Family.{ring_cell}
use Rattle.orientation.proofs.family.dark_ring.Given as goal

-- module i of the ring is dark
abbrev pub dark : ℕ → List ℕ → ℕ → Bool
dark n g i = eqb (get_or g (core_place false n (ring_cell i)) 0) 1

abbrev pub invariant-loop-k : goal.invariant-loop-k
invariant-loop-k l = l.dark ≡ count l.k (dark l.n l.grid)
