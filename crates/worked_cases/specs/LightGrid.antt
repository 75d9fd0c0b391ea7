-- A grid of C1 whose modules are all light, read with the D that the mode words said: 17 comes before 18 (document 01, "Numbers that come
-- back"). With 9 data words nine are marked, more than the 8 check words; with 3 the block of zeros is found, and its data words are flat.
-- Assumes nothing.
use Rattle.std.specs.Prelude.{◌≡◌, refl, false, List, ℕ, zero, suc, replicate}
use Rattle.std.proofs.Common.{ap, ◌∙◌, arith}
use Rattle.std.proofs.Math.Option.{none, some}
use Rattle.list_laws.specs.Filled.{tabulate}
use Rattle.list_laws.specs.Range.{count, all}
use Rattle.finite_field.specs.Field.{size_of, times_x, shift, times}
use Rattle.block_code.specs.Block.{Words, value_from}
use Rattle.block_code.specs.Nearest.{is_near}
use Rattle.block_code.specs.WordLists.{words-cons}
use Rattle.block_code.specs.NearestLaws.{near-test, nearest-some, too-many-marks}
use Rattle.stream.specs.Stuffing.{flat}
use Rattle.stream.specs.Items.{judge}
use Rattle.symbol.specs.Shapes.{side, square, bits, word_size, words, skipped}
use Rattle.symbol.specs.Places.{turned, domino, layer_cell, cell, spread, data_place}
use Rattle.symbol.specs.Positions.{place_in}
use Rattle.symbol.specs.GridWords.{value, unread, module_at, block_module, block_word}
use Rattle.sampling.specs.Flat.{flat_marked}
use Rattle.recovery.specs.Stages.{block_words_in, block_mark, block_marks_in, block_in}
use Rattle.stream.specs.declared.items.Fault.TheVariants.{FlatWord}
use Rattle.walk.specs.declared.Refusal.TheVariants.{Uncorrected, Faulty}
use Rattle.walk.specs.Walk.{ended, found_walk, block_walk, lawful_walk, layout_of, unread_in, shape_walk}
use Rattle.recovery.specs.FailedMode.{failed_conditions}
use Rattle.walk.specs.BlockIn.{nearest_in}

abbrev light : List ℕ
light = replicate 225 0

abbrev zeros : List ℕ
zeros = replicate 17 0

nine-marked : block_in false 1 9 0 light ≡ none
unfolding tabulate count flat side square bits word_size words skipped turned domino layer_cell cell spread data_place place_in
    value unread module_at block_module block_word block_words_in block_mark block_marks_in block_in
nine-marked = too-many-marks (size_of 6) 8 8 zeros _ (omega arith)

-- 17, with e 9 and K 8
pub beyond-correction : shape_walk light false 15 0 1 9 ≡ ended (Uncorrected 9 8)
unfolding tabulate count flat side square bits word_size words skipped turned domino layer_cell cell spread data_place place_in
    value unread module_at block_module block_word block_words_in flat_marked unread_in failed_conditions block_walk lawful_walk
beyond-correction =
    ap (found_walk (layout_of false 1 0 9) (block_words_in false 1 0 light) (unread_in false 1 0 light)) (nearest_in false 1 9 0 light ∙ nine-marked)

zero-words : (n : ℕ) → Words (size_of 6) (replicate n 0)
zero-words zero = λ i. omega arith
zero-words (suc n) = words-cons (size_of 6) 0 (replicate n 0) (omega arith) (zero-words n)

three-marked : block_in false 1 3 0 light ≡ some zeros
unfolding tabulate count flat side square bits word_size words skipped turned domino layer_cell cell spread data_place place_in
    value unread module_at block_module block_word block_words_in block_mark block_marks_in block_in all times_x shift times value_from is_near
three-marked =
    nearest-some (size_of 6) 14 14 zeros _ refl (λ i t. zero-words 17 i) (omega arith) (omega arith)
    ((near-test (size_of 6) 14 14 zeros _ zeros refl (zero-words 17)).0 tt)

-- 18, of the whole block: bit 0
pub flat-found : shape_walk light false 15 0 1 3 ≡ ended (Faulty (record { fault = FlatWord; bit = 0 }))
unfolding side bits word_size words failed_conditions all flat judge block_walk lawful_walk
flat-found =
    ap (found_walk (layout_of false 1 0 3) (block_words_in false 1 0 light) (unread_in false 1 0 light)) (nearest_in false 1 3 0 light ∙ three-marked)
