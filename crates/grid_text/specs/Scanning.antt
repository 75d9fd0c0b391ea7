-- Where the reading of a bitmap or of a text grid stands (`Scan`), what a byte does there, and which module it is.
-- Assumes nothing.
use Rattle.std.specs.Prelude.{cond, ℕ, ◌+◌, ◌*◌, Option, Some, None, eqb, ltb}
use Rattle.grid_text.specs.declared.kinds.Kind.{Kind}
use Rattle.grid_text.specs.declared.kinds.Kind.TheVariants.{Line, Blank, Digit, Unread, Hash, Other}
use Rattle.grid_text.specs.declared.scanning.Scan.{Scan}
use Rattle.grid_text.specs.declared.scanning.Scan.TheVariants.{Gap, Comment, Number, Raster, Rows, Bad}

-- before the width or the height: white space, a comment, or the number's first digit
abbrev pub gap : Option ℕ → Kind → Scan
gap side Line = Gap side
gap side Blank = Gap side
gap side (Digit d) = Number side d
gap side Unread = Bad
gap side Hash = Comment side
gap side Other = Bad

-- a comment goes to the end of its line
abbrev pub comment : Option ℕ → Kind → Scan
comment side Line = Gap side
comment side Blank = Comment side
comment side (Digit d) = Comment side
comment side Unread = Comment side
comment side Hash = Comment side
comment side Other = Comment side

-- a bitmap's modules: 0 and 1, white space between them skipped
abbrev pub raster : ℕ → Kind → Scan
raster side Line = Raster side
raster side Blank = Raster side
raster side (Digit d) = cond (ltb 1 d) Bad (Raster side)
raster side Unread = Bad
raster side Hash = Bad
raster side Other = Bad

-- what follows the width, or the height, which must be the same
abbrev pub after_value : Option ℕ → ℕ → Kind → Scan
after_value None value k = gap (Some value) k
after_value (Some side) value k = cond (eqb side value) (raster side k) Bad

-- neither is 0
abbrev pub ended : Option ℕ → ℕ → Kind → Scan
ended side value k = cond (eqb value 0) Bad (after_value side value k)

-- in the width or the height: a digit more, up to 255, or what comes after the number
abbrev pub number : Option ℕ → ℕ → Kind → Scan
number side value Line = ended side value Line
number side value Blank = ended side value Blank
number side value (Digit d) = cond (ltb 255 (10 * value + d)) Bad (Number side (10 * value + d))
number side value Unread = ended side value Unread
number side value Hash = ended side value Hash
number side value Other = ended side value Other

-- one module more in a row, up to 255
abbrev pub more_modules : Option ℕ → ℕ → Scan
more_modules side column = cond (ltb column 255) (Rows side (column + 1)) Bad

-- the first row gives the side, any other has to have as many modules
abbrev pub whole_row : Option ℕ → ℕ → Scan
whole_row None column = Rows (Some column) 0
whole_row (Some side) column = cond (eqb side column) (Rows (Some side) 0) Bad

-- a row's end: a blank line is skipped
abbrev pub row_end : Option ℕ → ℕ → Scan
row_end side column = cond (eqb column 0) (Rows side 0) (whole_row side column)

-- a text grid: modules 0, 1, 2 and ?, blanks between them skipped
abbrev pub rows : Option ℕ → ℕ → Kind → Scan
rows side column Line = row_end side column
rows side column Blank = Rows side column
rows side column (Digit d) = cond (ltb 2 d) Bad (more_modules side column)
rows side column Unread = more_modules side column
rows side column Hash = Bad
rows side column Other = Bad

-- from one byte to the next
unfoldable pub step : Scan → Kind → Scan
step (Gap side) k = gap side k
step (Comment side) k = comment side k
step (Number side value) k = number side value k
step (Raster side) k = raster side k
step (Rows side column) k = rows side column k
step Bad k = Bad

-- the module that a byte of a bitmap, or of a row, is: 0, 1 or 2, if it is one
abbrev pub raster_module : Kind → Option ℕ
raster_module Line = None
raster_module Blank = None
raster_module (Digit d) = cond (ltb 1 d) None (Some d)
raster_module Unread = None
raster_module Hash = None
raster_module Other = None

abbrev pub row_module : Kind → Option ℕ
row_module Line = None
row_module Blank = None
row_module (Digit d) = cond (ltb 2 d) None (Some d)
row_module Unread = Some 2
row_module Hash = None
row_module Other = None

-- the module that a byte is, wherever the reading stands
unfoldable pub shown : Scan → Kind → Option ℕ
shown (Gap side) k = None
shown (Comment side) k = None
shown (Number side value) k = None
shown (Raster side) k = raster_module k
shown (Rows side column) k = row_module k
shown Bad k = None
