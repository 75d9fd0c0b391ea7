-- The family of a sampled grid, compact or full (document 01, "How a grid is read", step 1). Why a compact tag is judged compact stands in
-- proofs/FamilyLaws.
-- Assumes nothing.
use Rattle.std.specs.Prelude.{◌≡◌, Bool, true, false, not, cond, List, ℕ, ◌/◌, ◌%◌, ◌<◌, T, eqb, ltb, leb, get_or}
use Rattle.std.proofs.Common.{arith, ne_eqb, lt-ltb}
use Rattle.list_laws.specs.Range.{count, all}
use Rattle.symbol.specs.Places.{Cell, turned, core_place}
use Rattle.symbol.specs.Drawing.{orientation_bits}
use Rattle.symbol.specs.Positions.{back}
use Rattle.orientation.specs.PositionLaws.{moved, shows}

-- the compact core ring, ten modules a side, clockwise from the upper left corner
unfoldable pub ring_cell : ℕ → Cell
ring_cell k = turned (k / 10) 11 0 (k % 10)

-- "dark among the 40 modules at distance 5"; unread is not dark
unfoldable pub dark_ring : ℕ → List ℕ → ℕ
dark_ring n g = count 40 (λ k. eqb (get_or g (core_place false n (ring_cell k)) 0) 1)

-- "Side 15 is compact, above 27 full. At 19, 23 and 27: four or more dark [..] means compact (source 002), else full"
unfoldable pub looks_full : ℕ → List ℕ → Bool
looks_full n g = cond (eqb n 15) false (cond (ltb 27 n) true (ltb (dark_ring n g) 4))

pub looks-full : (n : ℕ) (g : List ℕ) → 27 < n → looks_full n g ≡ true
unfolding looks_full
looks-full n g h = rw (ne_eqb n 15 (λ e. omega arith), lt-ltb 27 n h)

-- each position shows six that are not dark
pub light-test : T (all 8 (λ p. leb (count 12 (λ j. not (eqb (shows p j) 1))) 6))
unfolding all count shows moved back orientation_bits
light-test = tt
