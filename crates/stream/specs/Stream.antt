-- The encoder's stream (document 01, "From bytes to words": "The maker's stream, byte by byte").
-- Assumes nothing.
use Rattle.std.specs.Prelude.{cond, List, [], ◌∷◌, ◌++◌, ℕ, zero, suc, ◌-◌, min, ltb, leb, length, take}
use Rattle.stream.specs.Bits.{bits}
use Rattle.stream.specs.Codes.{width, code_of, has, home, coded}
use Rattle.stream.specs.Latches.{latch_bits}

-- the set that byte b is written in: the current set s if it has b, else the first that has
unfoldable pub target : ℕ → ℕ → ℕ
target s b = cond (has s b) s (home b)

-- byte b by its one-byte code, after the latches to its set
unfoldable pub char_bits : ℕ → ℕ → List ℕ
char_bits s b = latch_bits s (target s b) ++ bits (width (target s b)) (code_of (target s b) b)

-- how many bytes at the front no set has
unfoldable pub run_length : List ℕ → ℕ
run_length [] = 0
run_length (b ∷ m) = cond (coded b) 0 (suc (run_length m))

-- "from Punct or Digit latch to Upper first"
unfoldable pub run_set : ℕ → ℕ
run_set s = cond (ltb s 3) s 0

-- "5 bits of count 1 to 31, or 0 and then 11 bits of count minus 31"
unfoldable pub count_bits : ℕ → List ℕ
count_bits n = cond (leb n 31) (bits 5 n) (bits 5 0 ++ bits 11 (n - 31))

unfoldable pub bytes_bits : List ℕ → List ℕ
bytes_bits [] = []
bytes_bits (b ∷ l) = bits 8 b ++ bytes_bits l

-- one part of a run: B/S at code 31, the count, the bytes
unfoldable pub binary_bits : List ℕ → List ℕ
binary_bits l = bits 5 31 ++ (count_bits (length l) ++ bytes_bits l)

-- a part after the latch to a set that has B/S
unfoldable pub part_bits : ℕ → List ℕ → List ℕ
part_bits s l = latch_bits s (run_set s) ++ binary_bits l

-- the stream of a message, from set s on, with its first k bytes already written. `cut n` is the length of the next part of a run of
-- which n bytes are left
module _ (cut : ℕ → ℕ) where
  unfoldable pub stream_from : ℕ → ℕ → List ℕ → List ℕ
  stream_from k s [] = []
  stream_from (suc k) s (b ∷ m) = stream_from k s m
  stream_from zero s (b ∷ m) =
      let n = cut (run_length (b ∷ m)) in
      let char = char_bits s b ++ stream_from zero (target s b) m in
      let part = part_bits s (take n (b ∷ m)) ++ stream_from (n - 1) (run_set s) m in
      cond (coded b) char part

-- "in parts of 31, the last part the rest"
unfoldable pub next_part : ℕ → ℕ
next_part n = min 31 n

-- "Start in Upper"
unfoldable pub bits_of : List ℕ → List ℕ
bits_of message = stream_from next_part 0 0 message
