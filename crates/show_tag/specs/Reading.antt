-- What a text of decimal digits says.
-- Assumes nothing.
use Rattle.std.specs.Prelude.{cond, List, [], ◌∷◌, ℕ, ◌+◌, ◌*◌, ◌-◌, Option, Some, None, ltb}

-- the number so far, and one more byte: nothing comes of a byte that is no digit, or of 2^32 or more
abbrev pub more : ℕ → ℕ → ℕ
more value byte = 10 * value + (byte - 48)

abbrev pub extended : ℕ → ℕ → Option ℕ
extended value byte =
    cond (ltb byte 48) None (cond (ltb 57 byte) None (cond (ltb 4294967295 (more value byte)) None (Some (more value byte))))

unfoldable pub read_from : ℕ → List ℕ → Option ℕ
read_from value [] = Some value
read_from value (byte ∷ rest) =
    cond (ltb byte 48) None (cond (ltb 57 byte) None (cond (ltb 4294967295 (more value byte)) None (read_from (more value byte) rest)))

-- an empty text says nothing
unfoldable pub read_decimal : List ℕ → Option ℕ
read_decimal [] = None
read_decimal (byte ∷ rest) = read_from 0 (byte ∷ rest)
