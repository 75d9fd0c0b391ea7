-- Mode words (document 01, "Words and checks"): what says L and D in the core ring.
-- Assumes nothing.
use Rattle.std.specs.Prelude.{Bool, true, false, List, [], ◌∷◌, ◌++◌, ℕ, ◌+◌, ◌*◌, ◌-◌, ◌/◌, ◌%◌}
use Rattle.finite_field.specs.Field.{size_of}
use Rattle.block_code.specs.CheckWords.{check_words_of}

-- "Compact: L − 1 in 2 bits, D − 1 in 6 … Full: 5 and 11 bits", in words of 4 bits
unfoldable pub mode_data : Bool → ℕ → ℕ → List ℕ
mode_data false L D = let v = (L - 1) * 64 + (D - 1) in v / 16 % 16 ∷ v % 16 ∷ []
mode_data true L D = let v = (L - 1) * 2048 + (D - 1) in v / 4096 % 16 ∷ v / 256 % 16 ∷ v / 16 % 16 ∷ v % 16 ∷ []

-- "then 5 check words", "then 6 check words"
unfoldable pub mode_checks : Bool → ℕ
mode_checks false = 5
mode_checks true = 6

unfoldable pub mode_codewords : Bool → ℕ → ℕ → List ℕ
mode_codewords f L D = mode_data f L D ++ check_words_of (size_of 4) (mode_checks f) (mode_data f L D)
