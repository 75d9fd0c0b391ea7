-- Computed examples of the code sets and the latch paths (document 01, "From bytes to words"). Sets are numbered 0 Upper, 1 Lower, 2 Mixed,
-- 3 Punct, 4 Digit.
-- Assumes nothing.
use Rattle.std.specs.Prelude.{◌≡◌, refl, [], ◌∷◌, map, ℕ, length}
use Rattle.stream.specs.Bits.{bits, value}
use Rattle.stream.specs.Codes.{chars, table, row, width, position, code_of, home}
use Rattle.stream.specs.Latches.{paths, path, latch_code, path_bits, latch_bits}

-- "Mixed: 2–14 bytes 1–13, 15–19 bytes 27–31, 20–27 `@ \ ^ _`, backquote, vertical bar, `~`, byte 127"
pub mixed-codes : map (code_of 2) (1 ∷ 13 ∷ 27 ∷ 31 ∷ 64 ∷ 92 ∷ 94 ∷ 95 ∷ 96 ∷ 124 ∷ 126 ∷ 127 ∷ [])
    ≡ 2 ∷ 14 ∷ 15 ∷ 19 ∷ 20 ∷ 21 ∷ 22 ∷ 23 ∷ 24 ∷ 25 ∷ 26 ∷ 27 ∷ []
unfolding chars table row position code_of
mixed-codes = refl

-- "Punct: 1 CR, 6–20 bytes 33–47, 21–26 bytes 58–63, 27 `[`, 28 `]`, 29 `{`, 30 `}`"
pub punct-codes : map (code_of 3) (13 ∷ 33 ∷ 34 ∷ 47 ∷ 58 ∷ 63 ∷ 91 ∷ 93 ∷ 123 ∷ 125 ∷ [])
    ≡ 1 ∷ 6 ∷ 7 ∷ 20 ∷ 21 ∷ 26 ∷ 27 ∷ 28 ∷ 29 ∷ 30 ∷ []
unfolding chars table row position code_of
punct-codes = refl

-- "Digit: 2–11 digits, 12 `,`, 13 `.`"
pub digit-codes : map (code_of 4) (44 ∷ 46 ∷ 57 ∷ []) ≡ 12 ∷ 13 ∷ 11 ∷ []
unfolding chars table row position code_of
digit-codes = refl

-- "the first set in the order above that has one", 5 for none: space, CR, comma, full stop, "0"; bytes 0, 14 and 128
pub homes : map home (32 ∷ 13 ∷ 44 ∷ 46 ∷ 48 ∷ 0 ∷ 14 ∷ 128 ∷ []) ≡ 0 ∷ 2 ∷ 3 ∷ 3 ∷ 4 ∷ 5 ∷ 5 ∷ 5 ∷ []
unfolding chars table row position home
homes = refl

-- "5 bits a code, Digit 4": how many bits each path takes, from a set (row) to a set (column)
pub latch-lengths : map (λ s. map (λ t. length (latch_bits s t)) (0 ∷ 1 ∷ 2 ∷ 3 ∷ 4 ∷ [])) (0 ∷ 1 ∷ 2 ∷ 3 ∷ 4 ∷ [])
    ≡ (0 ∷ 5 ∷ 5 ∷ 10 ∷ 5 ∷ [])
    ∷ (9 ∷ 0 ∷ 5 ∷ 10 ∷ 5 ∷ [])
    ∷ (5 ∷ 5 ∷ 0 ∷ 5 ∷ 10 ∷ [])
    ∷ (5 ∷ 10 ∷ 10 ∷ 0 ∷ 10 ∷ [])
    ∷ (4 ∷ 9 ∷ 9 ∷ 14 ∷ 0 ∷ [])
    ∷ []
unfolding bits chars table row width position paths path latch_code path_bits latch_bits
latch-lengths = refl

-- "Upper to Punct by M/L P/L; Lower to Upper by D/L U/L; Mixed to Digit by U/L D/L; from Punct and Digit through Upper", as numbers
pub latch-values :
    map (λ (p : ℕ × ℕ). value 0 (latch_bits p.0 p.1))
    ((0, 3) ∷ (1, 0) ∷ (2, 4) ∷ (3, 1) ∷ (3, 2) ∷ (3, 4) ∷ (4, 1) ∷ (4, 2) ∷ (4, 3) ∷ [])
    ≡ 958 ∷ 494 ∷ 958 ∷ 1020 ∷ 1021 ∷ 1022 ∷ 476 ∷ 477 ∷ 15294 ∷ []
unfolding bits value chars table row width position paths path latch_code path_bits latch_bits
latch-values = refl

-- and "the rest in one step": the bits of each path as a number, by the set before and the set after
pub latch-values-all : map (λ s. map (λ t. value 0 (latch_bits s t)) (0 ∷ 1 ∷ 2 ∷ 3 ∷ 4 ∷ [])) (0 ∷ 1 ∷ 2 ∷ 3 ∷ 4 ∷ [])
    ≡ (0 ∷ 28 ∷ 29 ∷ 958 ∷ 30 ∷ [])
    ∷ (494 ∷ 0 ∷ 29 ∷ 958 ∷ 30 ∷ [])
    ∷ (29 ∷ 28 ∷ 0 ∷ 30 ∷ 958 ∷ [])
    ∷ (31 ∷ 1020 ∷ 1021 ∷ 0 ∷ 1022 ∷ [])
    ∷ (14 ∷ 476 ∷ 477 ∷ 15294 ∷ 0 ∷ [])
    ∷ []
unfolding bits value chars table row width position paths path latch_code path_bits latch_bits
latch-values-all = refl
