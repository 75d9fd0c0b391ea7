-- The picture of a single dark module, five rows of five: what the definitions give for it.
-- Assumes nothing.
use Rattle.std.specs.Prelude.{◌≡◌, refl, List, [], ◌∷◌, ◌++◌, ℕ}
use Rattle.picture.specs.Picture.{dark, joined, glyph, upper, black_on_white, white, reset, pbm_row, pair_line, half_line, terminal_line}

abbrev one : List ℕ
one = 1 ∷ []

pub border-row : pbm_row one 1 1 ≡ 48 ∷ 48 ∷ 48 ∷ 48 ∷ 48 ∷ 10 ∷ []
unfolding pbm_row joined dark
border-row = refl

pub module-row : pbm_row one 1 2 ≡ 48 ∷ 48 ∷ 49 ∷ 48 ∷ 48 ∷ 10 ∷ []
unfolding pbm_row joined dark
module-row = refl

pub module-above : terminal_line one 1 2 ≡ black_on_white ++ (32 ∷ 32 ∷ []) ++ upper ++ (32 ∷ 32 ∷ []) ++ reset
unfolding terminal_line pair_line joined glyph dark
module-above = refl

pub last_row : terminal_line one 1 4 ≡ white ++ upper ++ upper ++ upper ++ upper ++ upper ++ reset
unfolding terminal_line half_line joined
last_row = refl
