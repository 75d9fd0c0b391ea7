-- Computed examples of the encoder's plans and mode words (document 01, "From bytes to words": "Shape"; "Words and checks"; numbers 3
-- and 4).
-- Assumes nothing.
use Rattle.std.specs.Prelude.{◌≡◌, refl, Bool, true, false, List, [], ◌∷◌, map, ℕ, replicate}
use Rattle.list_laws.specs.Filled.{tabulate}
use Rattle.list_laws.specs.Search.{first_from}
use Rattle.finite_field.specs.Field.{times_x, shift, times}
use Rattle.block_code.specs.CheckWords.{times_root, generator, divide_step, remainder, check_words_of}
use Rattle.stream.specs.Bits.{bits}
use Rattle.stream.specs.Codes.{chars, table, row, entry, width, position, code_of, has, home, coded}
use Rattle.stream.specs.Latches.{paths, path, latch_code, path_bits, latch_bits}
use Rattle.stream.specs.Stream.{target, char_bits, run_length, run_set, count_bits, bytes_bits, binary_bits, part_bits}
use Rattle.stream.specs.Stream.{stream_from, next_part, bits_of}
use Rattle.stream.specs.Stuffing.{flat, put, fill, finish, stuff_from, stuff}
use Rattle.symbol.specs.Shapes as shape
use Rattle.encoder.specs.declared.Encoded.{Encoded}
use Rattle.encoder.specs.Plan.{refused, data_words_of, least_check, fits, listed, fits_listed, planned, plan_of}
use Rattle.encoder.specs.ModeMessage.{mode_data, mode_checks, mode_codewords}
use Rattle.encoder.specs.Encode.{result, encode_of}
use Rattle.recovery.specs.Stages.{said_layers, said_words}

-- "C1 to C4, then F4 to F32", "numbered 1 to 4 for C1 to C4, 5 to 36 for F1 to F32": the first, the fourth, the fifth and the last
pub order : map listed (0 ∷ 3 ∷ 4 ∷ 32 ∷ []) ≡ 1 ∷ 4 ∷ 8 ∷ 36 ∷ []
unfolding listed
order = refl

-- "ceil(percent·n/100) + 3": 5.1, 3.01, 0.99, 1 and 44 are to be rounded up
pub least-checks : least_check 10 51 ∷ least_check 7 43 ∷ least_check 11 9 ∷ least_check 5 20 ∷ least_check 50 88 ∷ []
    ≡ 9 ∷ 7 ∷ 4 ∷ 4 ∷ 47 ∷ []
unfolding least_check
least-checks = refl

abbrev made : ℕ → ℕ → ℕ → ℕ → Encoded
made s n d k = record { number = 0; shape = s; side = n; data_words = d; check_words = k }

-- "64 data words at 5 percent go in C4, 65 go in F4": 102 and 103 times "A"
pub most-compact : map (λ n. plan_of (replicate n 65) 5) (102 ∷ 103 ∷ []) ≡ made 4 27 64 12 ∷ made 8 31 65 23 ∷ []
unfolding bits chars table row entry width position code_of has home coded paths path latch_code path_bits latch_bits target char_bits
    run_length run_set count_bits bytes_bits binary_bits part_bits stream_from next_part bits_of flat put fill finish stuff_from stuff
    shape.side shape.bits shape.word_size shape.words shape.most_words shape.is_full shape.layers
    refused data_words_of least_check fits listed first_from fits_listed planned plan_of
most-compact = refl

-- 3 "no listed shape fits": at 95 percent F32 holds 105 zero bytes, and not 106
pub most_bytes : map (λ n. plan_of (replicate n 0) 95) (105 ∷ 106 ∷ []) ≡ made 36 151 80 1584 ∷ refused 3 ∷ []
unfolding bits chars table row entry width position code_of has home coded paths path latch_code path_bits latch_bits target char_bits
    run_length run_set count_bits bytes_bits binary_bits part_bits stream_from next_part bits_of flat put fill finish stuff_from stuff
    shape.side shape.bits shape.word_size shape.words shape.most_words shape.is_full shape.layers
    refused data_words_of least_check fits listed first_from fits_listed planned plan_of
most_bytes = refl

-- "Full: 5 and 11 bits, then 6 check words": L 4 and D 1, L 32 and D 1500; and what the reader takes from the latter
pub full-modes : (mode_codewords true 4 1 ≡ 1 ∷ 8 ∷ 0 ∷ 0 ∷ 6 ∷ 12 ∷ 14 ∷ 8 ∷ 6 ∷ 7 ∷ [])
    × (mode_codewords true 32 1500 ≡ 15 ∷ 13 ∷ 13 ∷ 11 ∷ 12 ∷ 6 ∷ 6 ∷ 12 ∷ 5 ∷ 5 ∷ [])
    × (said_layers true (15 ∷ 13 ∷ 13 ∷ 11 ∷ []) ≡ 32)
    × (said_words true (15 ∷ 13 ∷ 13 ∷ 11 ∷ []) ≡ 1500)
unfolding times times_x shift tabulate times_root generator divide_step remainder check_words_of mode_data mode_checks mode_codewords said_layers said_words
full-modes = (refl, refl, refl, refl)

-- the least L and D, the most, and the edges of a word of 4 bits: "L − 1 in 2 bits, D − 1 in 6", "5 and 11 bits"
pub mode-edges :
    mode_data false 1 1
    ∷ mode_data false 1 16
    ∷ mode_data false 1 17
    ∷ mode_data false 4 64
    ∷ mode_data true 1 1
    ∷ mode_data true 1 17
    ∷ mode_data true 1 257
    ∷ mode_data true 2 2048
    ∷ mode_data true 3 1
    ∷ mode_data true 32 2048
    ∷ []
    ≡ (0 ∷ 0 ∷ [])
    ∷ (0 ∷ 15 ∷ [])
    ∷ (1 ∷ 0 ∷ [])
    ∷ (15 ∷ 15 ∷ [])
    ∷ (0 ∷ 0 ∷ 0 ∷ 0 ∷ [])
    ∷ (0 ∷ 0 ∷ 1 ∷ 0 ∷ [])
    ∷ (0 ∷ 1 ∷ 0 ∷ 0 ∷ [])
    ∷ (0 ∷ 15 ∷ 15 ∷ 15 ∷ [])
    ∷ (1 ∷ 0 ∷ 0 ∷ 0 ∷ [])
    ∷ (15 ∷ 15 ∷ 15 ∷ 15 ∷ [])
    ∷ []
unfolding mode_data
mode-edges = refl

-- and what the reader takes from some of these: L and D
abbrev said : Bool → List ℕ → List ℕ
said f ms = said_layers f ms ∷ said_words f ms ∷ []

pub said-compact : map (said false) ((0 ∷ 0 ∷ []) ∷ (1 ∷ 0 ∷ []) ∷ (4 ∷ 0 ∷ []) ∷ (15 ∷ 15 ∷ []) ∷ [])
    ≡ (1 ∷ 1 ∷ []) ∷ (1 ∷ 17 ∷ []) ∷ (2 ∷ 1 ∷ []) ∷ (4 ∷ 64 ∷ []) ∷ []
unfolding said_layers said_words
said-compact = refl

pub said-full :
    map (said true)
    ((0 ∷ 0 ∷ 0 ∷ 0 ∷ []) ∷ (0 ∷ 7 ∷ 0 ∷ 0 ∷ []) ∷ (0 ∷ 8 ∷ 0 ∷ 0 ∷ []) ∷ (1 ∷ 0 ∷ 1 ∷ 0 ∷ []) ∷ (15 ∷ 15 ∷ 15 ∷ 15 ∷ []) ∷ [])
    ≡ (1 ∷ 1 ∷ []) ∷ (1 ∷ 1793 ∷ []) ∷ (2 ∷ 1 ∷ []) ∷ (3 ∷ 17 ∷ []) ∷ (32 ∷ 2048 ∷ []) ∷ []
unfolding said_layers said_words
said-full = refl

-- "Any other number comes with zeros in every other field"
pub zeros : (k : ℕ) → refused k ≡ record { number = k; shape = 0; side = 0; data_words = 0; check_words = 0 }
unfolding refused
zeros k = refl

-- 1 "message empty", 2 "percentage outside 5 to 95": "Lower numbers come first when several apply", here also 2 and 4
pub first-numbers : encode_of [] 96 [] ∷ encode_of (65 ∷ []) 96 [] ∷ encode_of (65 ∷ []) 4 [] ∷ []
    ≡ result (refused 1) [] ∷ result (refused 2) [] ∷ result (refused 2) [] ∷ []
unfolding refused plan_of encode_of
first-numbers = refl

-- 4 "grid buffer shorter than side²", with "untouched buffers": "POT" in a buffer of one module less than C1's 225
pub no_room : encode_of (80 ∷ 79 ∷ 84 ∷ []) 23 (replicate 224 9) ≡ result (refused 4) (replicate 224 9)
unfolding bits chars table row entry width position code_of has home coded paths path latch_code path_bits latch_bits target char_bits
    run_length run_set count_bits bytes_bits binary_bits part_bits stream_from next_part bits_of flat put fill finish stuff_from stuff
    shape.side shape.bits shape.word_size shape.words shape.most_words shape.is_full shape.layers
    refused data_words_of least_check fits listed first_from fits_listed planned plan_of encode_of
no_room = refl
