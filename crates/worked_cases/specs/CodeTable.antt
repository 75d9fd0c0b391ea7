-- The table of codes, all 160 entries, read back by its sentences (document 01, "From bytes to words", the table of sets). Sets are
-- numbered 0 Upper, 1 Lower, 2 Mixed, 3 Punct, 4 Digit.
-- Assumes nothing.
use Rattle.std.specs.Prelude.{◌≡◌, refl, cond, List, [], ◌∷◌, map, ℕ, ◌+◌, ◌-◌, leb}
use Rattle.list_laws.specs.Filled.{tabulate}
use Rattle.stream.specs.declared.codes.CodeSet.TheVariants.{Upper, Lower, Mixed, Punct, Digit}
use Rattle.stream.specs.declared.codes.Entry.{Entry}
use Rattle.stream.specs.declared.codes.Entry.TheVariants.{Char, Pair, Latch, Shift, Binary, Flag, Missing}
use Rattle.stream.specs.Codes.{chars, table, row, entry}

-- a part of a row, as the table has it: "2–27 A–Z" are codes 2 to 27, from byte 65 on; or a single code
pub data Part : Type 0 where
  bytes : (first last byte : ℕ) → Part
  code : (c : ℕ) → Entry → Part

abbrev last_code : Part → ℕ
last_code (bytes first last byte) = last
last_code (code c e) = c

abbrev part_at : Part → ℕ → Entry
part_at (bytes first last byte) c = Char (byte + (c - first))
part_at (code d e) c = e

-- what a code is, by parts one after the other
abbrev said_at : List Part → ℕ → Entry
said_at [] c = Missing
said_at (p ∷ ps) c = cond (leb c (last_code p)) (part_at p c) (said_at ps c)

-- Upper, Lower, Mixed, Punct, Digit. P/S shifts to Punct, U/S to Upper; L/L, M/L, D/L, U/L and P/L latch
unfoldable pub sentences : List (List Part)
sentences =
    (code 0 (Shift Punct) ∷ code 1 (Char 32) ∷ bytes 2 27 65
    ∷ code 28 (Latch Lower) ∷ code 29 (Latch Mixed) ∷ code 30 (Latch Digit) ∷ code 31 Binary ∷ [])
    ∷ (code 0 (Shift Punct) ∷ code 1 (Char 32) ∷ bytes 2 27 97
    ∷ code 28 (Shift Upper) ∷ code 29 (Latch Mixed) ∷ code 30 (Latch Digit) ∷ code 31 Binary ∷ [])
    ∷ (code 0 (Shift Punct) ∷ code 1 (Char 32) ∷ bytes 2 14 1 ∷ bytes 15 19 27
    ∷ code 20 (Char 64) ∷ code 21 (Char 92) ∷ code 22 (Char 94) ∷ code 23 (Char 95)
    ∷ code 24 (Char 96) ∷ code 25 (Char 124) ∷ code 26 (Char 126) ∷ code 27 (Char 127)
    ∷ code 28 (Latch Lower) ∷ code 29 (Latch Upper) ∷ code 30 (Latch Punct) ∷ code 31 Binary ∷ [])
    ∷ (code 0 Flag ∷ code 1 (Char 13) ∷ code 2 (Pair 13 10) ∷ code 3 (Pair 46 32) ∷ code 4 (Pair 44 32) ∷ code 5 (Pair 58 32)
    ∷ bytes 6 20 33 ∷ bytes 21 26 58
    ∷ code 27 (Char 91) ∷ code 28 (Char 93) ∷ code 29 (Char 123) ∷ code 30 (Char 125) ∷ code 31 (Latch Upper) ∷ [])
    ∷ (code 0 (Shift Punct) ∷ code 1 (Char 32) ∷ bytes 2 11 48
    ∷ code 12 (Char 44) ∷ code 13 (Char 46) ∷ code 14 (Latch Upper) ∷ code 15 (Shift Upper) ∷ [])
    ∷ []

pub table-right : map (λ s. tabulate (entry s) 32) (0 ∷ 1 ∷ 2 ∷ 3 ∷ 4 ∷ []) ≡ map (λ ps. tabulate (said_at ps) 32) sentences
unfolding tabulate chars table row entry sentences
table-right = refl
