-- A number in decimal digits, as bytes.
-- Assumes nothing.
use Rattle.std.specs.Prelude.{cond, List, [], ◌∷◌, ◌++◌, ℕ, zero, suc, ◌+◌, ◌/◌, ◌%◌, ltb}

-- the byte of a digit: "0" is 48
unfoldable pub digit : ℕ → ℕ
digit d = 48 + d

-- the digits of a number that at most k divisions by ten bring below ten
unfoldable pub decimal_in : ℕ → ℕ → List ℕ
decimal_in zero n = digit n ∷ []
decimal_in (suc k) n = cond (ltb n 10) (digit n ∷ []) (decimal_in k (n / 10) ++ digit (n % 10) ∷ [])

-- the digits of a number: n divisions are more than enough (`decimal-small` and `decimal-more` of DecimalLaws don't speak of them)
unfoldable pub decimal : ℕ → List ℕ
decimal n = decimal_in n n
