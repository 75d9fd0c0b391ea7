-- Latch paths (document 01, "From bytes to words": "Latch paths: Upper to Punct by M/L P/L; ..").
-- Assumes nothing.
use Rattle.std.specs.Prelude.{Bool, false, List, [], ◌∷◌, ◌++◌, ℕ, eqb, get_or}
use Rattle.stream.specs.declared.codes.Entry.{Entry}
use Rattle.stream.specs.declared.codes.Entry.TheVariants.{Char, Pair, Latch, Shift, Binary, Flag, Missing}
use Rattle.stream.specs.Bits.{bits}
use Rattle.stream.specs.Codes.{set_number, row, width, position}

-- the sets that are latched to, one after the other, from a set (row) to a set (column): M/L P/L is 2, 3
unfoldable pub paths : List (List (List ℕ))
paths =
    ([] ∷ (1 ∷ []) ∷ (2 ∷ []) ∷ (2 ∷ 3 ∷ []) ∷ (4 ∷ []) ∷ [])
    ∷ ((4 ∷ 0 ∷ []) ∷ [] ∷ (2 ∷ []) ∷ (2 ∷ 3 ∷ []) ∷ (4 ∷ []) ∷ [])
    ∷ ((0 ∷ []) ∷ (1 ∷ []) ∷ [] ∷ (3 ∷ []) ∷ (0 ∷ 4 ∷ []) ∷ [])
    ∷ ((0 ∷ []) ∷ (0 ∷ 1 ∷ []) ∷ (0 ∷ 2 ∷ []) ∷ [] ∷ (0 ∷ 4 ∷ []) ∷ [])
    ∷ ((0 ∷ []) ∷ (0 ∷ 1 ∷ []) ∷ (0 ∷ 2 ∷ []) ∷ (0 ∷ 2 ∷ 3 ∷ []) ∷ [] ∷ [])
    ∷ []

unfoldable pub path : ℕ → ℕ → List ℕ
path s t = get_or (get_or paths s []) t []

abbrev pub is_latch : ℕ → Entry → Bool
is_latch t (Char b) = false
is_latch t (Pair b c) = false
is_latch t (Latch u) = eqb (set_number u) t
is_latch t (Shift u) = false
is_latch t Binary = false
is_latch t Flag = false
is_latch t Missing = false

-- the code that latches from set s to set t
unfoldable pub latch_code : ℕ → ℕ → ℕ
latch_code s t = position (is_latch t) (row s)

unfoldable pub path_bits : ℕ → List ℕ → List ℕ
path_bits s [] = []
path_bits s (t ∷ ts) = bits (width s) (latch_code s t) ++ path_bits t ts

-- the bits that lead from set s to set t
unfoldable pub latch_bits : ℕ → ℕ → List ℕ
latch_bits s t = path_bits s (path s t)
