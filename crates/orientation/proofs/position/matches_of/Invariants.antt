-- The matches of the first k.
-- Assumes nothing.
use Rattle.std.proofs.Common.{◌≡◌, Bool, List, ℕ, eqb, get_or}
use Rattle.list_laws.specs.Range.{count}
use Rattle.symbol.specs.Places.{orientation_place}
use Rattle.symbol.specs.Drawing.{orientation_bits}
use Rattle.symbol.specs.Positions.{place_in}
use Rattle.orientation.proofs.position.matches_of.Given as goal

-- module i of the twelve matches
abbrev pub hit : Bool → ℕ → List ℕ → ℕ → ℕ → Bool
hit f n g p i = eqb (get_or g (place_in n p (orientation_place f n i)) 0) (get_or orientation_bits i 0)

abbrev pub invariant-loop-k : goal.invariant-loop-k
invariant-loop-k l = l.matched ≡ count l.k (hit l.frame.full l.frame.side l.grid l.position.number)
