-- The lines of a print run (document 01, "The print run").
-- Assumes nothing.
use Rattle.std.specs.Prelude.{Bool, true, cond, ◌&&◌, List, [], ◌∷◌, ◌++◌, ℕ, zero, suc, ◌+◌, ◌*◌, ◌-◌, ◌/◌, eqb, leb, ltb, length, get_or, take, drop}
use Rattle.encoder.specs.declared.Encoded.{Encoded}
use Rattle.encoder.specs.Plan.{plan_of}
use Rattle.listing.specs.Decimal.{decimal}

-- "byte 0 the message length", "byte 1 the percentage"
unfoldable pub message_length : List ℕ → ℕ
message_length bytes = get_or bytes 0 0

unfoldable pub percentage : List ℕ → ℕ
percentage bytes = get_or bytes 1 0

-- "bytes 2 to 31 the message", as many as its length says
unfoldable pub message : List ℕ → List ℕ
message bytes = take (message_length bytes) (drop 2 bytes)

unfoldable pub unused : List ℕ → List ℕ
unused bytes = drop (2 + message_length bytes) bytes

unfoldable pub all_zero : List ℕ → Bool
all_zero [] = true
all_zero (b ∷ bytes) = eqb b 0 && all_zero bytes

-- a record that isn't `bad`: "Records of 32 bytes", "the message length 1 to 30", "unused bytes 0"
unfoldable pub sound : List ℕ → Bool
sound bytes = eqb (length bytes) 32 && (leb 1 (message_length bytes) && (leb (message_length bytes) 30 && all_zero (unused bytes)))

-- "one space stands between fields": a field after the first
abbrev pub field : List ℕ → List ℕ
field text = 32 ∷ text

-- the words `bad` and `refused`
unfoldable pub bad_word : List ℕ
bad_word = 98 ∷ 97 ∷ 100 ∷ []

unfoldable pub refused_word : List ℕ
refused_word = 114 ∷ 101 ∷ 102 ∷ 117 ∷ 115 ∷ 101 ∷ 100 ∷ []

-- "Shapes are numbered 1 to 4 for C1 to C4, 5 to 36 for F1 to F32": C is 67, F is 70
unfoldable pub shape_name : ℕ → List ℕ
shape_name s = cond (ltb 4 s) (70 ∷ decimal (s - 4)) (67 ∷ decimal s)

-- "shape, side, D, K", or "`refused` and the refusal's number"
unfoldable pub answer_fields : Encoded → List ℕ
answer_fields e =
    cond (eqb e.number 0)
    (field (shape_name e.shape) ++ field (decimal e.side) ++ field (decimal e.data_words) ++ field (decimal e.check_words))
    (field refused_word ++ field (decimal e.number))

-- what stands after the record's number
unfoldable pub record_fields : List ℕ → List ℕ
record_fields bytes = cond (sound bytes) (answer_fields (plan_of (message bytes) (percentage bytes))) (field bad_word)

-- "Line: record number, …", "each line ends with one line feed"
unfoldable pub line_of : ℕ → List ℕ → List ℕ
line_of number bytes = decimal number ++ record_fields bytes ++ 10 ∷ []

-- the records that n bytes make, "a short last record" among them
abbrev pub records : ℕ → ℕ
records n = (n + 31) / 32

-- record k, counted from 0
unfoldable pub record_at : List ℕ → ℕ → List ℕ
record_at bytes k = take 32 (drop (32 * k) bytes)

-- the lines of the first n records, numbered from `first`
unfoldable pub first_lines : ℕ → List ℕ → ℕ → List ℕ
first_lines first bytes zero = []
first_lines first bytes (suc n) = first_lines first bytes n ++ line_of (first + n) (record_at bytes n)

unfoldable pub lines_from : ℕ → List ℕ → List ℕ
lines_from first bytes = first_lines first bytes (records (length bytes))

-- the whole output for a file: "Numbers start at 1", "an empty file gives no output"
unfoldable pub listing : List ℕ → List ℕ
listing bytes = lines_from 1 bytes
