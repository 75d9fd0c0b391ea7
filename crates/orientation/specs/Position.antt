-- The position of a sampled grid (document 01, "How a grid is read", step 2). A module is 0, 1 or 2, unread.
-- Assumes nothing.
use Rattle.std.specs.Prelude.{Bool, ◌&&◌, ◌||◌, List, ℕ, eqb, ltb, leb, get_or}
use Rattle.std.proofs.Math.Option.{Option, none, some}
use Rattle.std.specs.declared.option.Option.{Option as Given}
use Rattle.std.specs.declared.option.Option.TheVariants.{None, Some}
use Rattle.list_laws.specs.Range.{count, all}
use Rattle.list_laws.specs.Search.{first_from}
use Rattle.symbol.specs.Places.{orientation_place}
use Rattle.symbol.specs.Drawing.{orientation_bits}
use Rattle.symbol.specs.Positions.{place_in}

-- "Compare the twelve orientation modules with all eight positions; unread matches nothing"
unfoldable pub matches : Bool → ℕ → List ℕ → ℕ → ℕ
matches f n g p = count 12 (λ k. eqb (get_or g (place_in n p (orientation_place f n k)) 0) (get_or orientation_bits k 0))

-- "The position with most matches is taken if it has at least 9 and no other has as many"
unfoldable pub single : (ℕ → ℕ) → ℕ → Bool
single s p = leb 9 (s p) && all 8 (λ q. eqb q p || ltb (s q) (s p))

-- none is number 14, "no single best position with 9 matches"
unfoldable pub position : Bool → ℕ → List ℕ → Option ℕ
position f n g = first_from (single (matches f n g)) 0 8

-- the position as code gives it
abbrev pub position_given : Option ℕ → Given ℕ
position_given none = None
position_given (some p) = Some p
