-- Where modules stand (document 01, "Modules and shapes"). Rows and columns count from 0 at the top left; a place is a row times the side
-- plus a column.
-- Assumes nothing.
use Rattle.std.specs.Prelude.{Bool, true, false, cond, ℕ, zero, suc, ◌+◌, ◌*◌, ◌-◌, ◌/◌, ◌%◌, ◌≤◌, max, eqb, ltb}
use Rattle.std.proofs.Common.{arith}
use Rattle.symbol.specs.Shapes.{side, square, core, centre}

-- a row and a column
abbrev pub Cell : Type 0
Cell = ℕ × ℕ

abbrev pub index : ℕ → Cell → ℕ
index n x = x.0 * n + x.1

-- The eight positions: "the number of clockwise quarter turns, 0 to 3, plus 4 if the made tag was mirrored left to right before them".
-- Where the module at row r and column c of an upright square of side n then stands
unfoldable pub turned : ℕ → ℕ → ℕ → ℕ → Cell
turned zero n r c = (r, c)
turned (suc zero) n r c = (c, n - 1 - r)
turned (suc (suc zero)) n r c = (n - 1 - r, n - 1 - c)
turned (suc (suc (suc zero))) n r c = (n - 1 - c, r)
turned (suc (suc (suc (suc zero)))) n r c = (r, n - 1 - c)
turned (suc (suc (suc (suc (suc zero))))) n r c = (n - 1 - c, n - 1 - r)
turned (suc (suc (suc (suc (suc (suc zero)))))) n r c = (n - 1 - r, c)
turned (suc (suc (suc (suc (suc (suc (suc p))))))) n r c = (c, r)

-- Data places. Bit b, higher bit first, of domino j on one of the four sides of the outermost layer of a square of side S: left, bottom,
-- right, top
unfoldable pub domino : ℕ → ℕ → ℕ → ℕ → Cell
domino zero S j b = (j, b)
domino (suc zero) S j b = (S - 1 - b, j)
domino (suc (suc zero)) S j b = (S - 1 - j, S - 1 - b)
domino (suc (suc (suc s))) S j b = (b, S - 1 - j)

-- bit i of that layer, which has q = S − 2 dominoes a side
unfoldable pub layer_cell : ℕ → ℕ → Cell
layer_cell S i = let m = i % (2 * (S - 2)) in domino (i / (2 * (S - 2))) S (m / 2) (m % 2)

abbrev pub shifted : ℕ → Cell → Cell
shifted o x = (o + x.0, o + x.1)

-- bit i of L layers: a square of side S, with o rows and columns of other layers before it
unfoldable pub cell : ℕ → ℕ → ℕ → ℕ → Cell
cell zero S o i = (o, o)
cell (suc L) S o i = cond (ltb i (8 * (S - 2))) (shifted o (layer_cell S i)) (cell L (S - 4) (o + 2) (i - 8 * (S - 2)))

-- a row or column of the square without reference lines, among all: 15 of them stand between two lines
unfoldable pub spread : Bool → ℕ → ℕ → ℕ
spread false L a = a
spread true L a = a + (6 + 2 * L) / 15 + (a + 68 - 2 * L) / 15 - 4

unfoldable pub data_place : Bool → ℕ → ℕ → ℕ
data_place f L i = let x = cell L (square f L) 0 i in index (side f L) (spread f L x.0, spread f L x.1)

-- The core. A module of the core square, whose edge is the core ring, in a symbol of side n
unfoldable pub core_place : Bool → ℕ → Cell → ℕ
core_place f n x = index n (shifted (n / 2 - core f) x)

-- "twelve orientation modules, three at each corner. Clockwise from the one below the top left corner"
unfoldable pub orientation_cell : Bool → ℕ → Cell
orientation_cell f k = turned (k / 3) (2 * core f + 1) (1 - k % 3) (k % 3 - 1)

unfoldable pub orientation_place : Bool → ℕ → ℕ → ℕ
orientation_place f n k = core_place f n (orientation_cell f k)

-- "Mode message, clockwise from the upper left: compact 7 bits a side at offsets −3 to 3; full 10 a side at −5 to −1 and 1 to 5"
unfoldable pub mode_run : Bool → ℕ
mode_run false = 7
mode_run true = 10

pub run-most : (f : Bool) → mode_run f ≤ 10
unfolding mode_run
run-most false = omega arith
run-most true = omega arith

unfoldable pub mode_column : Bool → ℕ → ℕ
mode_column false j = 2 + j
mode_column true j = 2 + j + j / 5

unfoldable pub mode_cell : Bool → ℕ → Cell
mode_cell f k = turned (k / mode_run f) (2 * core f + 1) 0 (mode_column f (k % mode_run f))

unfoldable pub mode_place : Bool → ℕ → ℕ → ℕ
mode_place f n k = core_place f n (mode_cell f k)

-- The fixed pattern. How far apart two numbers are
abbrev pub gap : ℕ → ℕ → ℕ
gap a b = (a - b) + (b - a)

-- "dark when that maximum is even"
unfoldable pub target : ℕ → ℕ → ℕ
target x y = 1 - max x y % 2

-- "Reference grid (full only, outside the target): modules with x or y a multiple of 16 are dark when x + y is even"
unfoldable pub reference : Bool → ℕ → ℕ → ℕ
reference false x y = 0
reference true x y = cond (eqb (x % 16) 0) (1 - (x + y) % 2) (cond (eqb (y % 16) 0) (1 - (x + y) % 2) 0)

-- the module at distances x and y from the centre
unfoldable pub fixed_at : Bool → ℕ → ℕ → ℕ
fixed_at f x y = cond (ltb (max x y) (core f)) (target x y) (reference f x y)

-- the module at a place
unfoldable pub fixed_place : Bool → ℕ → ℕ → ℕ
fixed_place f L k = fixed_at f (gap (k % side f L) (centre f L)) (gap (k / side f L) (centre f L))
