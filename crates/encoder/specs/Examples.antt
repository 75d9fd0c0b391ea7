-- Worked examples, no part of what the crate promises: document 01's print run, and the standard's annex G.
-- Assumes nothing.
use Rattle.std.specs.Prelude.{◌≡◌, refl, false, List, [], ◌∷◌, map, ℕ}
use Rattle.list_laws.specs.Filled.{tabulate}
use Rattle.list_laws.specs.Search.{first_from}
use Rattle.finite_field.specs.Field.{size_of, times, times_x, shift}
use Rattle.block_code.specs.CheckWords.{times_root, generator, divide_step, remainder, check_words_of}
use Rattle.stream.specs.Bits.{bits}
use Rattle.stream.specs.Codes.{chars, table, row, entry, width, position, code_of, has, home, coded}
use Rattle.stream.specs.Latches.{paths, path, latch_code, path_bits, latch_bits}
use Rattle.stream.specs.Stream.{target, char_bits, run_length, run_set, count_bits, bytes_bits, binary_bits, part_bits, stream_from, next_part, bits_of}
use Rattle.stream.specs.Stuffing.{flat, put, fill, finish, stuff_from, stuff}
use Rattle.symbol.specs.Shapes as shape
use Rattle.encoder.specs.declared.Encoded.{Encoded}
use Rattle.encoder.specs.Plan.{refused, data_words_of, least_check, fits, listed, fits_listed, planned, plan_of}
use Rattle.encoder.specs.ModeMessage.{mode_data, mode_checks, mode_codewords}

-- a message, a percentage, and the answer
pub record Case : Type 0 where
  pub text : List ℕ
  pub percent : ℕ
  pub answer : Encoded

abbrev made : ℕ → ℕ → ℕ → ℕ → Encoded
made s n d k = record { number = 0; shape = s; side = n; data_words = d; check_words = k }

-- (POT, 23), (A, 95), (A, 96), (A, 4), nothing
unfoldable pub cases : List Case
unfolding refused
cases =
    record { text = 80 ∷ 79 ∷ 84 ∷ []; percent = 23; answer = made 1 15 3 14 }
    ∷ record { text = 65 ∷ []; percent = 95; answer = made 8 31 1 87 }
    ∷ record { text = 65 ∷ []; percent = 96; answer = refused 2 }
    ∷ record { text = 65 ∷ []; percent = 4; answer = refused 2 }
    ∷ record { text = []; percent = 96; answer = refused 1 }
    ∷ []

pub plans-right : map (λ (c : Case). plan_of c.text c.percent) cases ≡ map (λ (c : Case). c.answer) cases
unfolding cases bits chars table row entry width position code_of has home coded paths path latch_code path_bits latch_bits target char_bits
    run_length run_set count_bits bytes_bits binary_bits part_bits stream_from next_part bits_of flat put fill finish stuff_from stuff
    shape.side shape.bits shape.word_size shape.words shape.most_words shape.is_full shape.layers
    refused data_words_of least_check fits listed first_from fits_listed planned plan_of
plans-right = refl

-- annex G: the check words of its ten data words, and the mode words of one layer with ten data words
pub annex-g : (check_words_of (size_of 6) 7 (9 ∷ 50 ∷ 1 ∷ 41 ∷ 47 ∷ 2 ∷ 39 ∷ 37 ∷ 1 ∷ 27 ∷ []) ≡ 38 ∷ 50 ∷ 8 ∷ 16 ∷ 10 ∷ 20 ∷ 40 ∷ [])
    × (mode_codewords false 1 10 ≡ 0 ∷ 9 ∷ 12 ∷ 2 ∷ 3 ∷ 1 ∷ 9 ∷ [])
unfolding times times_x shift tabulate times_root generator divide_step remainder check_words_of mode_data mode_checks mode_codewords
annex-g = (refl, refl)
