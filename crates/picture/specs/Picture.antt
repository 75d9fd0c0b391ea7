-- The picture of a symbol: side × side modules inside a light border of two modules on every side, and its lines as bytes.
-- Assumes nothing.
use Rattle.std.specs.Prelude.{Bool, true, false, cond, ◌&&◌, List, [], ◌∷◌, ◌++◌, ℕ, zero, suc, ◌+◌, ◌*◌, ◌-◌, eqb, leb, ltb, get_or}

-- rows and columns of the picture
abbrev pub extent : ℕ → ℕ
extent side = side + 4

-- a row or column of the picture that is one of the symbol's
abbrev pub inside : ℕ → ℕ → Bool
inside side k = leb 2 k && ltb (k - 2) side

-- the picture at a row and a column: a dark module of the symbol
unfoldable pub dark : List ℕ → ℕ → ℕ → ℕ → Bool
dark grid side row column = (inside side row && inside side column) && eqb (get_or grid ((row - 2) * side + (column - 2)) 0) 1

-- texts f 0, f 1, .., f (n - 1), one after the other
unfoldable pub joined : (ℕ → List ℕ) → ℕ → List ℕ
joined f zero = []
joined f (suc n) = joined f n ++ f n

abbrev pub digit_of : Bool → ℕ
digit_of true = 49
digit_of false = 48

abbrev pub pixel : List ℕ → ℕ → ℕ → ℕ → List ℕ
pixel grid side row column = digit_of (dark grid side row column) ∷ []

-- a row of a plain portable bitmap (PBM, "P1"): a digit a module, 1 dark, then a line feed
unfoldable pub pbm_row : List ℕ → ℕ → ℕ → List ℕ
pbm_row grid side row = joined (pixel grid side row) (extent side) ++ 10 ∷ []

-- UTF-8 of the block elements
abbrev pub full : List ℕ
full = 226 ∷ 150 ∷ 136 ∷ []

abbrev pub upper : List ℕ
upper = 226 ∷ 150 ∷ 128 ∷ []

abbrev pub lower : List ℕ
lower = 226 ∷ 150 ∷ 132 ∷ []

-- the character for two modules, one above the other: dark is drawn, light is left to the background
unfoldable pub glyph : Bool → Bool → List ℕ
glyph true true = full
glyph true false = upper
glyph false true = lower
glyph false false = 32 ∷ []

-- ANSI's escape sequences. Both colours of a line are named, black on white, so that dark is dark on a light terminal and on a dark one;
-- they are reset before the line's end, or the terminal may paint what stands to the right of the picture.
abbrev pub black_on_white : List ℕ
black_on_white = 27 ∷ 91 ∷ 51 ∷ 48 ∷ 59 ∷ 52 ∷ 55 ∷ 109 ∷ []

abbrev pub white : List ℕ
white = 27 ∷ 91 ∷ 51 ∷ 55 ∷ 109 ∷ []

abbrev pub reset : List ℕ
reset = 27 ∷ 91 ∷ 48 ∷ 109 ∷ 10 ∷ []

-- what a column shows of a row and the next
abbrev pub two_rows : List ℕ → ℕ → ℕ → ℕ → List ℕ
two_rows grid side row column = glyph (dark grid side row column) (dark grid side (row + 1) column)

-- the line of the drawing for a row and the next
unfoldable pub pair_line : List ℕ → ℕ → ℕ → List ℕ
pair_line grid side row = (black_on_white ++ joined (two_rows grid side row) (extent side)) ++ reset

-- the line for the last row alone, which is border: white upper halves, and the terminal's own background below
unfoldable pub half_line : ℕ → List ℕ
half_line side = (white ++ joined (λ column. upper) (extent side)) ++ reset

-- the line that starts with a row: the next row is drawn too, if there is one
unfoldable pub terminal_line : List ℕ → ℕ → ℕ → List ℕ
terminal_line grid side row = cond (ltb (row + 1) (extent side)) (pair_line grid side row) (half_line side)
