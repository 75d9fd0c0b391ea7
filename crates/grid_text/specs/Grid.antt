-- The grid that bytes say: a plain portable bitmap (PBM, "P1") or rows of 0, 1, 2 and ?, one byte a module: 0 light, 1 dark, 2 unread.
-- Assumes nothing.
use Rattle.std.specs.Prelude.{Bool, cond, ◌&&◌, List, [], ◌∷◌, ◌++◌, ℕ, ◌*◌, Option, Some, None, option_and_then, eqb, leb, length, get_or, drop}
use Rattle.grid_text.specs.declared.kinds.Kind.TheVariants.{Line}
use Rattle.grid_text.specs.declared.scanning.Scan.{Scan}
use Rattle.grid_text.specs.declared.scanning.Scan.TheVariants.{Gap, Comment, Number, Raster, Rows, Bad}
use Rattle.grid_text.specs.Kinds.{kind_of}
use Rattle.grid_text.specs.Scanning.{step, shown}

-- where the reading stands after some bytes
unfoldable pub after : Scan → List ℕ → Scan
after s [] = s
after s (b ∷ bytes) = after (step s (kind_of b)) bytes

-- a module met, or none
abbrev pub one_module : Option ℕ → List ℕ
one_module None = []
one_module (Some m) = m ∷ []

-- the modules met on the way
unfoldable pub modules : Scan → List ℕ → List ℕ
modules s [] = []
modules s (b ∷ bytes) = one_module (shown s (kind_of b)) ++ modules (step s (kind_of b)) bytes

-- the side that a bitmap's header, or the first row, gave
unfoldable pub side_in : Scan → Option ℕ
side_in (Gap side) = None
side_in (Comment side) = None
side_in (Number side value) = None
side_in (Raster side) = Some side
side_in (Rows side column) = side
side_in Bad = None

-- a side counts if there are side² modules and room for them
unfoldable pub judged : ℕ → ℕ → ℕ → Option ℕ
judged side count room = cond (eqb (side * side) count) (cond (leb count room) (Some side) None) None

-- a line feed at the end is understood
abbrev pub side_from : Scan → List ℕ → ℕ → Option ℕ
side_from s bytes room = option_and_then (λ side. judged side (length (modules s bytes)) room) (side_in (step (after s bytes) Line))

-- bytes that begin with P1 are a bitmap
unfoldable pub is_bitmap : List ℕ → Bool
is_bitmap bytes = eqb (get_or bytes 0 0) 80 && eqb (get_or bytes 1 0) 49

-- the grid's side for a buffer with some room, if the bytes say a grid
unfoldable pub side_of : List ℕ → ℕ → Option ℕ
side_of bytes room = cond (is_bitmap bytes) (side_from (Gap None) (drop 2 bytes) room) (side_from (Rows None 0) bytes room)

-- the modules met, for a grid that is refused too
unfoldable pub modules_of : List ℕ → List ℕ
modules_of bytes = cond (is_bitmap bytes) (modules (Gap None) (drop 2 bytes)) (modules (Rows None 0) bytes)
