-- Computed examples of the fixed pattern and of words as modules (document 01, "Modules and shapes").
-- Assumes nothing.
use Rattle.std.specs.Prelude.{◌≡◌, refl, true, false, [], ◌∷◌, map, ℕ, get_or}
use Rattle.symbol.specs.Shapes.{side, core, centre}
use Rattle.symbol.specs.Places.{target, reference, fixed_at, fixed_place}
use Rattle.symbol.specs.Drawing.{bit_of, words_bit}
use Rattle.symbol.specs.GridWords.{value, unread}

-- "Target: modules with max(|x|,|y|) at most 4 (compact) [..] are dark when that maximum is even"; outside it a compact symbol has no grid
pub compact-pattern : map (λ (d : ℕ × ℕ). fixed_at false d.0 d.1) ((0, 0) ∷ (1, 0) ∷ (4, 2) ∷ (3, 3) ∷ (5, 0) ∷ [])
    ≡ 1 ∷ 0 ∷ 1 ∷ 0 ∷ 0 ∷ []
unfolding core target reference fixed_at
compact-pattern = refl

-- the target's corner, and a module beyond it
pub compact-corners : map (λ (d : ℕ × ℕ). fixed_at false d.0 d.1) ((4, 4) ∷ (6, 4) ∷ []) ≡ 1 ∷ 0 ∷ []
unfolding core target reference fixed_at
compact-corners = refl

-- "or 6 (full)"; "Reference grid (full only, outside the target): modules with x or y a multiple of 16 are dark when x + y is even"
pub full-pattern :
    map (λ (d : ℕ × ℕ). fixed_at true d.0 d.1) ((6, 1) ∷ (0, 7) ∷ (0, 8) ∷ (16, 3) ∷ (16, 4) ∷ (16, 16) ∷ (17, 15) ∷ [])
    ≡ 1 ∷ 0 ∷ 1 ∷ 0 ∷ 1 ∷ 1 ∷ 0 ∷ []
unfolding core target reference fixed_at
full-pattern = refl

-- the sixteenth line both ways, the next, and a line beside the sixteenth; the target's corner, and the core ring's
pub full-lines : map (λ (d : ℕ × ℕ). fixed_at true d.0 d.1)
    ((14, 16) ∷ (15, 16) ∷ (16, 14) ∷ (2, 32) ∷ (3, 32) ∷ (48, 64) ∷ (14, 18) ∷ (6, 6) ∷ (5, 5) ∷ (7, 7) ∷ (8, 0) ∷ [])
    ≡ 1 ∷ 0 ∷ 1 ∷ 1 ∷ 0 ∷ 1 ∷ 0 ∷ 1 ∷ 0 ∷ 0 ∷ 1 ∷ []
unfolding core target reference fixed_at
full-lines = refl

-- F5 has side 37 and its centre at row and column 18: row 2 at columns 2, 3, 18 and 19, and row 18 at columns 10, 11, 17 and 18
pub pattern-places : map (fixed_place true 5) (76 ∷ 77 ∷ 92 ∷ 93 ∷ 676 ∷ 677 ∷ 683 ∷ 684 ∷ []) ≡ 1 ∷ 0 ∷ 1 ∷ 0 ∷ 1 ∷ 0 ∷ 0 ∷ 1 ∷ []
unfolding side core centre target reference fixed_at fixed_place
pattern-places = refl

-- "The first Cb mod B bits are 0 [..]; then data words, then check words, each higher bit first": C1's two, then 35 and 2 in 6 bits
pub word-bits : map (words_bit 6 2 (35 ∷ 2 ∷ [])) (0 ∷ 1 ∷ 2 ∷ 3 ∷ 4 ∷ 5 ∷ 6 ∷ 7 ∷ 8 ∷ 9 ∷ 10 ∷ 11 ∷ 12 ∷ 13 ∷ [])
    ≡ 0 ∷ 0 ∷ 1 ∷ 0 ∷ 0 ∷ 0 ∷ 1 ∷ 1 ∷ 0 ∷ 0 ∷ 0 ∷ 0 ∷ 1 ∷ 0 ∷ []
unfolding bit_of words_bit
word-bits = refl

-- "The reader also takes 2, unread": the four modules 1 0 2 1, and 1 0 0 1
pub word-of-modules :
    (value 4 (λ b. get_or (1 ∷ 0 ∷ 2 ∷ 1 ∷ []) b 0) ≡ 9)
    × (unread 4 (λ b. get_or (1 ∷ 0 ∷ 2 ∷ 1 ∷ []) b 0) ≡ 1)
    × (unread 4 (λ b. get_or (1 ∷ 0 ∷ 0 ∷ 1 ∷ []) b 0) ≡ 0)
unfolding value unread
word-of-modules = (refl, refl, refl)
