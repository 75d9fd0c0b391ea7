-- Document 01's print run, and numbers in digits. No part of what the crate promises.
-- Assumes nothing.
use Rattle.std.specs.Prelude.{◌≡◌, refl, List, [], ◌∷◌, ◌++◌, map, ℕ, replicate}
use Rattle.list_laws.specs.Search.{first_from}
use Rattle.stream.specs.Bits.{bits, value, all_ones}
use Rattle.stream.specs.Codes.{chars, table, row, entry, width, position, code_of, has, home, coded}
use Rattle.stream.specs.Latches.{paths, path, latch_code, path_bits, latch_bits}
use Rattle.stream.specs.Stream.{target, char_bits, run_length, run_set, count_bits, bytes_bits, binary_bits, part_bits, stream_from, next_part, bits_of}
use Rattle.stream.specs.Stuffing.{flat, put, fill, finish, stuff_from, stuff}
use Rattle.symbol.specs.Shapes.{side, bits as shape_bits, word_size, words, most_words, is_full, layers}
use Rattle.encoder.specs.Plan.{refused, data_words_of, least_check, fits, listed, fits_listed, planned, plan_of}
use Rattle.listing.specs.Decimal.{digit, decimal_in, decimal}
use Rattle.listing.specs.Line.{message_length, percentage, message, unused, all_zero, sound, bad_word, refused_word, shape_name}
use Rattle.listing.specs.Line.{answer_fields, record_fields, line_of, record_at, first_lines, lines_from, listing}

-- (POT, 23), (A, 95), (A, 96) and a record of length 0
unfoldable pub sample : List ℕ
sample =
    (3 ∷ 23 ∷ 80 ∷ 79 ∷ 84 ∷ replicate 27 0)
    ++ (1 ∷ 95 ∷ 65 ∷ replicate 29 0)
    ++ (1 ∷ 96 ∷ 65 ∷ replicate 29 0)
    ++ (0 ∷ 23 ∷ replicate 30 0)

-- "1 C1 15 3 14", "2 F4 31 1 87", "3 refused 2", "4 bad"
unfoldable pub sample_lines : List ℕ
sample_lines =
    (49 ∷ 32 ∷ 67 ∷ 49 ∷ 32 ∷ 49 ∷ 53 ∷ 32 ∷ 51 ∷ 32 ∷ 49 ∷ 52 ∷ 10 ∷ [])
    ++ (50 ∷ 32 ∷ 70 ∷ 52 ∷ 32 ∷ 51 ∷ 49 ∷ 32 ∷ 49 ∷ 32 ∷ 56 ∷ 55 ∷ 10 ∷ [])
    ++ (51 ∷ 32 ∷ 114 ∷ 101 ∷ 102 ∷ 117 ∷ 115 ∷ 101 ∷ 100 ∷ 32 ∷ 50 ∷ 10 ∷ [])
    ++ (52 ∷ 32 ∷ 98 ∷ 97 ∷ 100 ∷ 10 ∷ [])

pub print-run : listing sample ≡ sample_lines
unfolding sample sample_lines bits value all_ones chars table row entry width position code_of has home coded paths path latch_code path_bits
    latch_bits target char_bits run_length run_set count_bits bytes_bits binary_bits part_bits stream_from next_part bits_of
    flat put fill finish stuff_from stuff side shape_bits word_size words most_words is_full layers
    refused data_words_of least_check fits listed first_from fits_listed planned plan_of digit decimal_in decimal
    message_length percentage message unused all_zero sound bad_word refused_word shape_name
    answer_fields record_fields line_of record_at first_lines lines_from listing
print-run = refl

-- 0, 9, 10 and 1024
pub digits-right : map decimal (0 ∷ 9 ∷ 10 ∷ 1024 ∷ []) ≡ (48 ∷ []) ∷ (57 ∷ []) ∷ (49 ∷ 48 ∷ []) ∷ (49 ∷ 48 ∷ 50 ∷ 52 ∷ []) ∷ []
unfolding digit decimal_in decimal
digits-right = refl
