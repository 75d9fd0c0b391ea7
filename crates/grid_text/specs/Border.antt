-- The rings of a grid, from the outermost (0) inwards: whether one is light, and the grid that is left when some are taken away.
-- Assumes nothing.
use Rattle.std.specs.Prelude.{Bool, ◌&&◌, List, ℕ, ◌+◌, ◌*◌, ◌-◌, ◌/◌, ◌%◌, eqb, get_or}
use Rattle.list_laws.specs.Range.{all}
use Rattle.list_laws.specs.Filled.{tabulate, filled}

-- the side of what is left inside of some rings
abbrev pub inner_side : ℕ → ℕ → ℕ
inner_side side rings = side - 2 * rings

-- how many modules that is
abbrev pub inner_count : ℕ → ℕ → ℕ
inner_count side rings = inner_side side rings * inner_side side rings

-- a ring's last row and last column
abbrev pub last_of : ℕ → ℕ → ℕ
last_of side ring = side - 1 - ring

module _ (g : List ℕ) (side : ℕ) where
  -- row by row from the top
  abbrev pub module_at : ℕ → ℕ → ℕ
  module_at row column = get_or g (row * side + column) 0

  -- the four modules of a ring in its row and its column k, counted from the ring's corner: above, below, left and right
  abbrev pub light_at : ℕ → ℕ → Bool
  light_at ring k =
      eqb (module_at ring (ring + k)) 0
      && (eqb (module_at (last_of side ring) (ring + k)) 0
      && (eqb (module_at (ring + k) ring) 0 && eqb (module_at (ring + k) (last_of side ring)) 0))

  -- all of a ring is 0
  unfoldable pub light_ring : ℕ → Bool
  light_ring ring = all (inner_side side ring) (light_at ring)

  -- module k of the grid inside of some rings
  unfoldable pub inner_module : ℕ → ℕ → ℕ
  inner_module rings k = module_at (rings + k / inner_side side rings) (rings + k % inner_side side rings)

  -- the grid inside of some rings
  abbrev pub inner : ℕ → List ℕ
  inner rings = tabulate (inner_module rings) (inner_count side rings)

  -- a buffer with that grid at its front, the rest as it was
  abbrev pub copied : ℕ → List ℕ → List ℕ
  copied rings = filled (inner_module rings) (inner_count side rings)
