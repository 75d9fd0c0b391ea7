-- Computed examples of the lines of a print run (document 01, "The print run"), and of the picture of a symbol.
-- Assumes nothing.
use Rattle.std.specs.Prelude.{◌≡◌, refl, true, false, [], ◌∷◌, ◌++◌, map, replicate}
use Rattle.list_laws.specs.Search.{first_from}
use Rattle.stream.specs.Bits.{bits}
use Rattle.stream.specs.Codes.{chars, table, row, entry, width, position, code_of, has, home, coded}
use Rattle.stream.specs.Latches.{paths, path, latch_code, path_bits, latch_bits}
use Rattle.stream.specs.Stream.{target, char_bits, run_length, run_set, count_bits, bytes_bits, binary_bits, part_bits}
use Rattle.stream.specs.Stream.{stream_from, next_part, bits_of}
use Rattle.stream.specs.Stuffing.{flat, put, fill, finish, stuff_from, stuff}
use Rattle.symbol.specs.Shapes as shape
use Rattle.encoder.specs.Plan.{data_words_of, least_check, fits, listed, fits_listed, planned, plan_of}
use Rattle.listing.specs.Decimal.{digit, decimal_in, decimal}
use Rattle.listing.specs.Line.{message_length, percentage, message, unused, all_zero, sound, field, bad_word, shape_name, answer_fields}
use Rattle.listing.specs.Line.{record_fields, line_of, record_at, first_lines, lines_from, listing}
use Rattle.picture.specs.Picture.{dark, joined, glyph, black_on_white, white, reset, pbm_row, pair_line, terminal_line}

-- "A bad length or unused byte, or a short last record, gives the record number and `bad`": 31 bytes; the length 31; an unused byte 1, and
-- that before the maker's 2
pub bad-records :
    map record_fields
    ((1 ∷ 95 ∷ 65 ∷ replicate 28 0) ∷ (31 ∷ 23 ∷ replicate 30 65) ∷ (1 ∷ 96 ∷ 65 ∷ replicate 28 0 ++ 1 ∷ []) ∷ [])
    ≡ field bad_word ∷ field bad_word ∷ field bad_word ∷ []
unfolding message_length unused all_zero sound record_fields
bad-records = refl

-- "Records of 32 bytes", "the message length 1 to 30", "unused bytes 0": lengths 1, 30 and 29, of bytes 0 and 1; the first unused byte 1,
-- the last; lengths 0 and 31; 33 bytes
pub sound-records :
    map sound
    ((1 ∷ 5 ∷ replicate 30 0)
    ∷ (30 ∷ 5 ∷ replicate 30 1)
    ∷ (29 ∷ 5 ∷ replicate 29 1 ++ 0 ∷ [])
    ∷ (1 ∷ 5 ∷ 1 ∷ 1 ∷ replicate 28 0)
    ∷ (29 ∷ 5 ∷ replicate 30 1)
    ∷ replicate 32 0
    ∷ (31 ∷ 5 ∷ replicate 30 1)
    ∷ (1 ∷ 5 ∷ 1 ∷ replicate 30 0)
    ∷ [])
    ≡ true ∷ true ∷ true ∷ false ∷ false ∷ false ∷ false ∷ false ∷ []
unfolding message_length unused all_zero sound
sound-records = refl

-- "bytes 2 to 31 the message": the line "12 C2 19 25 15" of 30 times "A" at 23 percent, 25 words of 40
pub longest-record : line_of 12 (30 ∷ 23 ∷ replicate 30 65) ≡ 49 ∷ 50 ∷ 32 ∷ 67 ∷ 50 ∷ 32 ∷ 49 ∷ 57 ∷ 32 ∷ 50 ∷ 53 ∷ 32 ∷ 49 ∷ 53 ∷ 10 ∷ []
unfolding bits chars table row entry width position code_of has home coded paths path latch_code path_bits latch_bits target char_bits
    run_length run_set count_bits bytes_bits binary_bits part_bits stream_from next_part bits_of flat put fill finish stuff_from stuff
    shape.side shape.bits shape.word_size shape.words shape.most_words shape.is_full shape.layers
    data_words_of least_check fits listed first_from fits_listed planned plan_of digit decimal_in decimal
    message_length percentage message unused all_zero sound shape_name answer_fields record_fields line_of
longest-record = refl

-- "1 bad" for a file of one byte; "an empty file gives no output"
pub short-files : map listing ((3 ∷ []) ∷ [] ∷ []) ≡ (49 ∷ 32 ∷ 98 ∷ 97 ∷ 100 ∷ 10 ∷ []) ∷ [] ∷ []
unfolding digit decimal_in decimal message_length unused all_zero sound bad_word record_fields line_of record_at first_lines lines_from listing
short-files = refl

-- "1 bad" and "2 bad" for 33 bytes
pub bad-lines : listing (replicate 33 0) ≡ 49 ∷ 32 ∷ 98 ∷ 97 ∷ 100 ∷ 10 ∷ 50 ∷ 32 ∷ 98 ∷ 97 ∷ 100 ∷ 10 ∷ []
unfolding digit decimal_in decimal message_length unused all_zero sound bad_word record_fields line_of record_at first_lines lines_from listing
bad-lines = refl

-- a single dark module stands in row 2 of five; the line of rows 1 and 2 shows it as a lower half block, U+2584
pub module-below : terminal_line (1 ∷ []) 1 1 ≡ black_on_white ++ (32 ∷ 32 ∷ 226 ∷ 150 ∷ 132 ∷ 32 ∷ 32 ∷ []) ++ reset
unfolding dark joined glyph pair_line terminal_line
module-below = refl

-- rows 4 and 5 of six are border, and are drawn as one line
pub border-below : terminal_line (1 ∷ 1 ∷ 1 ∷ 1 ∷ []) 2 4 ≡ black_on_white ++ replicate 6 32 ++ reset
unfolding dark joined glyph pair_line terminal_line
border-below = refl

-- modules 1 0 and 1 1, in a border of two: rows 1 to 4 of six
pub bitmap-rows : map (pbm_row (1 ∷ 0 ∷ 1 ∷ 1 ∷ []) 2) (1 ∷ 2 ∷ 3 ∷ 4 ∷ [])
    ≡ (48 ∷ 48 ∷ 48 ∷ 48 ∷ 48 ∷ 48 ∷ 10 ∷ [])
    ∷ (48 ∷ 48 ∷ 49 ∷ 48 ∷ 48 ∷ 48 ∷ 10 ∷ [])
    ∷ (48 ∷ 48 ∷ 49 ∷ 49 ∷ 48 ∷ 48 ∷ 10 ∷ [])
    ∷ (48 ∷ 48 ∷ 48 ∷ 48 ∷ 48 ∷ 48 ∷ 10 ∷ [])
    ∷ []
unfolding dark joined pbm_row
bitmap-rows = refl

-- U+2588, U+2580, U+2584 and a space; ESC [ 30;47 m, ESC [ 37 m, and ESC [ 0 m with a line feed
pub glyphs : glyph true true ∷ glyph true false ∷ glyph false true ∷ glyph false false ∷ []
    ≡ (226 ∷ 150 ∷ 136 ∷ []) ∷ (226 ∷ 150 ∷ 128 ∷ []) ∷ (226 ∷ 150 ∷ 132 ∷ []) ∷ (32 ∷ []) ∷ []
unfolding glyph
glyphs = refl

pub colours : black_on_white ∷ white ∷ reset ∷ []
    ≡ (27 ∷ 91 ∷ 51 ∷ 48 ∷ 59 ∷ 52 ∷ 55 ∷ 109 ∷ []) ∷ (27 ∷ 91 ∷ 51 ∷ 55 ∷ 109 ∷ []) ∷ (27 ∷ 91 ∷ 48 ∷ 109 ∷ 10 ∷ []) ∷ []
colours = refl
