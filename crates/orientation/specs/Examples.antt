-- Worked examples, no part of what the crate promises: matches, positions, families and sides as a program that was written apart from
-- these definitions gives them.
-- Assumes nothing.
use Rattle.std.specs.Prelude.{◌≡◌, refl, Bool, true, false, List, [], ◌∷◌, map, ℕ, zero, suc, ◌+◌, ◌*◌, length, get_or, replicate, Result, Ok, Err}
use Rattle.std.proofs.Math.Option.{Option, none, some}
use Rattle.list_laws.specs.Range.{count, all}
use Rattle.list_laws.specs.Search.{first_from}
use Rattle.list_laws.specs.Writes.{writes}
use Rattle.symbol.specs.Shapes.{side, core, is_full, layers}
use Rattle.symbol.specs.Places.{turned, core_place, orientation_cell, orientation_place}
use Rattle.symbol.specs.Drawing.{orientation_bits}
use Rattle.symbol.specs.Positions.{place_in}
use Rattle.orientation.specs.declared.position.Unplaced.{Unplaced}
use Rattle.orientation.specs.Position.{matches, single, position}
use Rattle.orientation.specs.Greatest.{most}
use Rattle.orientation.specs.Masks.{mask_from}
use Rattle.orientation.specs.Placement.{best_matches, best_positions, placement_of}
use Rattle.orientation.specs.Family.{ring_cell, dark_ring, looks_full}
use Rattle.orientation.specs.Sides.{has_side, is_side}

-- a grid of side n, light but for the places listed
unfoldable pub painted : ℕ → List ℕ → List ℕ → List ℕ
painted n dark unread =
    writes (writes (replicate (n * n) 0) (λ k. get_or dark k 0) (λ k. 1) (length dark)) (λ k. get_or unread k 0) (λ k. 2) (length unread)

-- a grid, its matches in each position, and the position taken
pub record Turned : Type 0 where
  pub full : Bool
  pub side : ℕ
  pub grid : List ℕ
  pub matches : List ℕ
  pub position : Option ℕ

abbrev case : Bool → ℕ → List ℕ → List ℕ → List ℕ → Option ℕ → Turned
case f n dark unread m p = record { full = f; side = n; grid = painted n dark unread; matches = m; position = p }

-- the undamaged orientation modules of C1 in all eight positions, and of F1 in two; two wrong modules that make a tie; one wrong, and the
-- first position with 9 matches isn't the best; three unread, four, and all twelve
unfoldable pub turns : List Turned
unfolding painted
turns =
    case false 15 (32 ∷ 33 ∷ 42 ∷ 47 ∷ 57 ∷ 177 ∷ []) [] (12 ∷ 4 ∷ 4 ∷ 4 ∷ 8 ∷ 6 ∷ 4 ∷ 6 ∷ []) (some 0)
    ∷ case false 15 (41 ∷ 42 ∷ 57 ∷ 183 ∷ 191 ∷ 192 ∷ []) [] (4 ∷ 12 ∷ 4 ∷ 4 ∷ 6 ∷ 8 ∷ 6 ∷ 4 ∷ []) (some 1)
    ∷ case false 15 (47 ∷ 167 ∷ 177 ∷ 182 ∷ 191 ∷ 192 ∷ []) [] (4 ∷ 4 ∷ 12 ∷ 4 ∷ 4 ∷ 6 ∷ 8 ∷ 6 ∷ []) (some 2)
    ∷ case false 15 (32 ∷ 33 ∷ 41 ∷ 167 ∷ 182 ∷ 183 ∷ []) [] (4 ∷ 4 ∷ 4 ∷ 12 ∷ 6 ∷ 4 ∷ 6 ∷ 8 ∷ []) (some 3)
    ∷ case false 15 (32 ∷ 41 ∷ 42 ∷ 47 ∷ 57 ∷ 167 ∷ []) [] (8 ∷ 6 ∷ 4 ∷ 6 ∷ 12 ∷ 4 ∷ 4 ∷ 4 ∷ []) (some 4)
    ∷ case false 15 (33 ∷ 41 ∷ 42 ∷ 177 ∷ 191 ∷ 192 ∷ []) [] (6 ∷ 8 ∷ 6 ∷ 4 ∷ 4 ∷ 12 ∷ 4 ∷ 4 ∷ []) (some 5)
    ∷ case false 15 (57 ∷ 167 ∷ 177 ∷ 182 ∷ 183 ∷ 192 ∷ []) [] (4 ∷ 6 ∷ 8 ∷ 6 ∷ 4 ∷ 4 ∷ 12 ∷ 4 ∷ []) (some 6)
    ∷ case false 15 (32 ∷ 33 ∷ 47 ∷ 182 ∷ 183 ∷ 191 ∷ []) [] (6 ∷ 4 ∷ 6 ∷ 8 ∷ 4 ∷ 4 ∷ 4 ∷ 12 ∷ []) (some 7)
    ∷ case true 19 (53 ∷ 54 ∷ 73 ∷ 307 ∷ 319 ∷ 320 ∷ []) [] (4 ∷ 12 ∷ 4 ∷ 4 ∷ 6 ∷ 8 ∷ 6 ∷ 4 ∷ []) (some 1)
    ∷ case true 19 (73 ∷ 287 ∷ 301 ∷ 306 ∷ 307 ∷ 320 ∷ []) [] (4 ∷ 6 ∷ 8 ∷ 6 ∷ 4 ∷ 4 ∷ 12 ∷ 4 ∷ []) (some 6)
    ∷ case false 15 (32 ∷ 42 ∷ 47 ∷ 57 ∷ 177 ∷ 41 ∷ []) [] (10 ∷ 6 ∷ 4 ∷ 4 ∷ 10 ∷ 6 ∷ 4 ∷ 4 ∷ []) none
    ∷ case false 15 (32 ∷ 42 ∷ 47 ∷ 57 ∷ 167 ∷ []) [] (9 ∷ 5 ∷ 5 ∷ 5 ∷ 11 ∷ 3 ∷ 5 ∷ 5 ∷ []) (some 4)
    ∷ case false 15 (47 ∷ 57 ∷ 177 ∷ []) (32 ∷ 33 ∷ 42 ∷ []) (9 ∷ 3 ∷ 4 ∷ 2 ∷ 6 ∷ 4 ∷ 4 ∷ 4 ∷ []) (some 0)
    ∷ case false 15 (57 ∷ 177 ∷ []) (32 ∷ 33 ∷ 42 ∷ 47 ∷ []) (8 ∷ 3 ∷ 3 ∷ 2 ∷ 5 ∷ 4 ∷ 4 ∷ 3 ∷ []) none
    ∷ case false 15 [] (32 ∷ 33 ∷ 41 ∷ 42 ∷ 47 ∷ 57 ∷ 167 ∷ 177 ∷ 182 ∷ 183 ∷ 191 ∷ 192 ∷ []) (0 ∷ 0 ∷ 0 ∷ 0 ∷ 0 ∷ 0 ∷ 0 ∷ 0 ∷ []) none
    ∷ []

pub matches-right : map (λ (c : Turned). map (matches c.full c.side c.grid) (0 ∷ 1 ∷ 2 ∷ 3 ∷ 4 ∷ 5 ∷ 6 ∷ 7 ∷ [])) turns
    ≡ map (λ (c : Turned). c.matches) turns
unfolding turns painted writes matches count place_in turned orientation_place orientation_cell core_place core orientation_bits
matches-right = refl

pub positions-right : map (λ (c : Turned). position c.full c.side c.grid) turns ≡ map (λ (c : Turned). c.position) turns
unfolding turns painted writes matches count place_in turned orientation_place orientation_cell core_place core orientation_bits position single
    all first_from
positions-right = refl

-- no position: the best match count, and the positions that have it
abbrev unplaced : ℕ → ℕ → Result ℕ Unplaced
unplaced best positions = Err (record { best = best; positions = positions })

-- of those without a position, positions 0 and 4 have 10 matches, 0 alone 8, and all eight none
pub placements-right : map (λ (c : Turned). placement_of c.full c.side c.grid) turns
    ≡ Ok 0 ∷ Ok 1 ∷ Ok 2 ∷ Ok 3 ∷ Ok 4 ∷ Ok 5 ∷ Ok 6 ∷ Ok 7 ∷ Ok 1 ∷ Ok 6 ∷ unplaced 10 17 ∷ Ok 4 ∷ Ok 0 ∷ unplaced 8 1 ∷ unplaced 0 255 ∷ []
unfolding turns painted writes matches count place_in turned orientation_place orientation_cell core_place core orientation_bits position single
    all first_from best_matches best_positions most mask_from
placements-right = refl

-- a grid, how many modules at distance 5 are dark, and whether it looks full
pub record Ringed : Type 0 where
  pub side : ℕ
  pub grid : List ℕ
  pub dark : ℕ
  pub full : Bool

abbrev tested : ℕ → List ℕ → List ℕ → ℕ → Bool → Ringed
tested n dark unread d f = record { side = n; grid = painted n dark unread; dark = d; full = f }

-- the first has dark modules at distances 4 and 6 and an unread one at 5 besides
unfoldable pub rings : List Ringed
unfolding painted
rings =
    tested 19 (80 ∷ 89 ∷ 242 ∷ 260 ∷ 71 ∷ 104 ∷ 186 ∷ []) (275 ∷ []) 3 true
    ∷ tested 19 (80 ∷ 89 ∷ 242 ∷ 274 ∷ []) [] 4 false
    ∷ tested 23 (384 ∷ 374 ∷ 154 ∷ 305 ∷ []) [] 4 false
    ∷ tested 27 (504 ∷ 494 ∷ 234 ∷ []) [] 3 true
    ∷ tested 27 (504 ∷ 494 ∷ 234 ∷ 224 ∷ 369 ∷ []) [] 5 false
    ∷ tested 15 [] [] 0 false
    ∷ tested 31 (640 ∷ 630 ∷ 330 ∷ 320 ∷ []) [] 4 true
    ∷ []

pub families-right : (map (λ (c : Ringed). dark_ring c.side c.grid) rings ≡ map (λ (c : Ringed). c.dark) rings)
    × (map (λ (c : Ringed). looks_full c.side c.grid) rings ≡ map (λ (c : Ringed). c.full) rings)
unfolding rings painted writes dark_ring looks_full ring_cell core_place core turned count
families-right = (refl, refl)

unfoldable pub sides_from : ℕ → ℕ → List ℕ
sides_from i zero = []
sides_from i (suc n) = let rest = sides_from (i + 1) n in kept (is_side i) rest
  where
    kept : Bool → List ℕ → List ℕ
    kept true l = i ∷ l
    kept false l = l

-- those of source 000's table 1, and no others below 160
pub sides-right : sides_from 0 160
    ≡ 15 ∷ 19 ∷ 23 ∷ 27 ∷ 31 ∷ 37 ∷ 41 ∷ 45 ∷ 49 ∷ 53 ∷ 57 ∷ 61 ∷ 67 ∷ 71 ∷ 75 ∷ 79 ∷ 83 ∷ 87 ∷ 91 ∷ 95 ∷ 101 ∷ 105 ∷ 109 ∷ 113 ∷ 117 ∷ 121
    ∷ 125 ∷ 131 ∷ 135 ∷ 139 ∷ 143 ∷ 147 ∷ 151 ∷ []
unfolding sides_from is_side has_side first_from side is_full layers
sides-right = refl
