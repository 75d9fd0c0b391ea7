-- The code sets (document 01, "From bytes to words", the table of sets and codes): five rows of 32 entries, set by code.
-- Assumes nothing.
use Rattle.std.specs.Prelude.{◌<◌, Bool, false, cond, List, [], ◌∷◌, ◌++◌, ℕ, suc, ◌+◌, eqb, ltb, get_or, replicate}
use Rattle.std.proofs.Common.{arith}
use Rattle.list_laws.specs.Filled.{tabulate}
use Rattle.stream.specs.declared.codes.CodeSet.{CodeSet}
use Rattle.stream.specs.declared.codes.CodeSet.TheVariants.{Upper, Lower, Mixed, Punct, Digit}
use Rattle.stream.specs.declared.codes.Entry.{Entry}
use Rattle.stream.specs.declared.codes.Entry.TheVariants.{Char, Pair, Latch, Shift, Binary, Flag, Missing}

-- the number of a set: its row in the table
abbrev pub set_number : CodeSet → ℕ
set_number Upper = 0
set_number Lower = 1
set_number Mixed = 2
set_number Punct = 3
set_number Digit = 4

pub set-number-below : (s : CodeSet) → set_number s < 5
set-number-below Upper = omega arith
set-number-below Lower = omega arith
set-number-below Mixed = omega arith
set-number-below Punct = omega arith
set-number-below Digit = omega arith

-- the table's names for the codes that are no characters: S shifts for one character, L latches
abbrev pub U/S : Entry
U/S = Shift Upper

abbrev pub P/S : Entry
P/S = Shift Punct

abbrev pub U/L : Entry
U/L = Latch Upper

abbrev pub L/L : Entry
L/L = Latch Lower

abbrev pub M/L : Entry
M/L = Latch Mixed

abbrev pub P/L : Entry
P/L = Latch Punct

abbrev pub D/L : Entry
D/L = Latch Digit

abbrev pub B/S : Entry
B/S = Binary

abbrev pub FLG : Entry
FLG = Flag

-- n characters, from byte b on
unfoldable pub chars : ℕ → ℕ → List Entry
unfolding tabulate
chars b n = tabulate (λ i. Char (b + i)) n

abbrev pub upper : List Entry
upper = P/S ∷ Char 32 ∷ chars 65 26 ++ (L/L ∷ M/L ∷ D/L ∷ B/S ∷ [])

abbrev pub lower : List Entry
lower = P/S ∷ Char 32 ∷ chars 97 26 ++ (U/S ∷ M/L ∷ D/L ∷ B/S ∷ [])

abbrev pub mixed : List Entry
mixed =
    P/S ∷ Char 32 ∷ chars 1 13
    ++ chars 27 5
    ++ (Char 64 ∷ Char 92 ∷ Char 94 ∷ Char 95 ∷ Char 96 ∷ Char 124 ∷ Char 126 ∷ Char 127 ∷ L/L ∷ U/L ∷ P/L ∷ B/S ∷ [])

abbrev pub punct : List Entry
punct =
    FLG ∷ Char 13 ∷ Pair 13 10 ∷ Pair 46 32 ∷ Pair 44 32 ∷ Pair 58 32 ∷ chars 33 15
    ++ chars 58 6
    ++ (Char 91 ∷ Char 93 ∷ Char 123 ∷ Char 125 ∷ U/L ∷ [])

abbrev pub digit : List Entry
digit = P/S ∷ Char 32 ∷ chars 48 10 ++ (Char 44 ∷ Char 46 ∷ U/L ∷ U/S ∷ replicate 16 Missing)

unfoldable pub table : List (List Entry)
table = upper ∷ lower ∷ mixed ∷ punct ∷ digit ∷ []

unfoldable pub row : ℕ → List Entry
row s = get_or table s []

unfoldable pub entry : ℕ → ℕ → Entry
entry s c = get_or (row s) c Missing

-- "5 bits a code, Digit 4"
unfoldable pub width : ℕ → ℕ
width s = cond (eqb s 4) 4 5

-- the place of the first entry of a list that passes a test; the list's length if none does
module _ {A : Type 0} where
  unfoldable pub position : (A → Bool) → List A → ℕ
  position p [] = 0
  position p (x ∷ xs) = let later = position p xs in cond (p x) 0 (suc later)

abbrev pub is_char : ℕ → Entry → Bool
is_char b (Char x) = eqb x b
is_char b (Pair x y) = false
is_char b (Latch t) = false
is_char b (Shift t) = false
is_char b Binary = false
is_char b Flag = false
is_char b Missing = false

-- the one-byte code of b in a set; 32 if it has none
unfoldable pub code_of : ℕ → ℕ → ℕ
code_of s b = position (is_char b) (row s)

unfoldable pub has : ℕ → ℕ → Bool
has s b = ltb (code_of s b) 32

-- "the first set in the order above that has one"; 5 if none has
unfoldable pub home : ℕ → ℕ
home b = position (λ r. ltb (position (is_char b) r) 32) table

-- some set has b
unfoldable pub coded : ℕ → Bool
coded b = ltb (home b) 5
