-- Computed examples of the encoder's stream (document 01, "From bytes to words": "The maker's stream", "Stuffing").
-- Assumes nothing.
use Rattle.std.specs.Prelude.{◌≡◌, refl, [], ◌∷◌, ◌++◌, map, length, replicate}
use Rattle.stream.specs.Bits.{bits}
use Rattle.stream.specs.Codes.{chars, table, row, width, position, code_of, has, home, coded}
use Rattle.stream.specs.Latches.{paths, path, latch_code, path_bits, latch_bits}
use Rattle.stream.specs.Stream.{target, char_bits, run_length, run_set, count_bits, bytes_bits, binary_bits, part_bits}
use Rattle.stream.specs.Stream.{stream_from, next_part, bits_of}
use Rattle.stream.specs.Stuffing.{flat, put, fill, finish, stuff_from, stuff}

-- "in parts of 31, the last part the rest"
pub parts : map next_part (1 ∷ 31 ∷ 32 ∷ 62 ∷ []) ≡ 1 ∷ 31 ∷ 31 ∷ 31 ∷ []
unfolding next_part
parts = refl

-- "A maximal run [..] goes out by B/S in parts of 31", "No [..] long count": 32 zero bytes are two parts, 2 · 10 + 32 · 8 bits
pub two-parts : length (bits_of (replicate 32 0)) ≡ 276
unfolding bits chars table row width position code_of has home coded paths path latch_code path_bits latch_bits target char_bits run_length run_set
    count_bits bytes_bits binary_bits part_bits stream_from next_part bits_of
two-parts = refl

-- "if the current set has a one-byte code, use it": a comma stays in Digit
pub comma-in-digit : bits_of (49 ∷ 44 ∷ []) ≡ bits 5 30 ++ bits 4 3 ++ bits 4 12
unfolding bits chars table row width position code_of has home coded paths path latch_code path_bits latch_bits target char_bits run_length run_set
    count_bits bytes_bits binary_bits part_bits stream_from next_part bits_of
comma-in-digit = refl

-- "from Punct or Digit latch to Upper first": "!" and a zero byte are M/L P/L, code 6, U/L, B/S, the count 1 and the byte
pub run-from-punct : bits_of (33 ∷ 0 ∷ []) ≡ bits 5 29 ++ bits 5 30 ++ bits 5 6 ++ bits 5 31 ++ bits 5 31 ++ bits 5 1 ++ bits 8 0
unfolding bits chars table row width position code_of has home coded paths path latch_code path_bits latch_bits target char_bits run_length run_set
    count_bits bytes_bits binary_bits part_bits stream_from next_part bits_of
run-from-punct = refl

-- "@", a zero byte, "@": after B/S Mixed is still the set; "1", a zero byte, "A": "from Punct or Digit latch to Upper first"; "AN": the
-- last word "would be all 1s"
pub words : map (λ m. stuff 6 (bits_of m)) ((64 ∷ 0 ∷ 64 ∷ []) ∷ (49 ∷ 0 ∷ 65 ∷ []) ∷ (65 ∷ 78 ∷ []) ∷ [])
    ≡ (59 ∷ 19 ∷ 56 ∷ 16 ∷ 2 ∷ 39 ∷ []) ∷ (60 ∷ 31 ∷ 31 ∷ 2 ∷ 1 ∷ 1 ∷ 47 ∷ []) ∷ (4 ∷ 62 ∷ []) ∷ []
unfolding bits chars table row width position code_of has home coded paths path latch_code path_bits latch_bits target char_bits run_length run_set
    count_bits bytes_bits binary_bits part_bits stream_from next_part bits_of flat put fill finish stuff_from stuff
words = refl
