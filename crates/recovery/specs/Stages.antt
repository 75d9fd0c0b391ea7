-- How a grid is read (document 01, "How a grid is read"), from mode words on: a definition for each stage, over a grid of side n in
-- position p. `orientation` has the stages before: side, modules, family and position.
-- Assumes nothing.
use Rattle.std.specs.Prelude.{Bool, true, false, not, cond, ◌&&◌, List, ℕ, ◌+◌, ◌*◌, ◌-◌, ◌/◌, ◌%◌, eqb, leb, ltb, get_or}
use Rattle.std.proofs.Math.Option.{Option}
use Rattle.list_laws.specs.Filled.{tabulate}
use Rattle.list_laws.specs.Range.{count}
use Rattle.finite_field.specs.Field.{size_of}
use Rattle.block_code.specs.Nearest.{nearest}
use Rattle.stream.specs.Stuffing.{flat}
use Rattle.symbol.specs.Shapes.{side, word_size, words}
use Rattle.symbol.specs.Places.{mode_run}
use Rattle.symbol.specs.GridWords.{unread, mode_module, block_module, mode_word, block_word}
use Rattle.encoder.specs.ModeMessage.{mode_checks}

-- Step 3: "Mode words, then data words, go to the corrector. A word with an unread module is marked"
unfoldable pub mode_words_in : Bool → ℕ → ℕ → List ℕ → List ℕ
mode_words_in f n p g = tabulate (mode_word f n p g) (mode_run f)

unfoldable pub mode_marks_in : Bool → ℕ → ℕ → List ℕ → List ℕ
mode_marks_in f n p g = tabulate (λ w. unread 4 (mode_module f n p g w)) (mode_run f)

-- the corrected mode words; none is 15
unfoldable pub mode_in : Bool → ℕ → ℕ → List ℕ → Option (List ℕ)
mode_in f n p g = nearest (size_of 4) (mode_checks f) (mode_checks f) (mode_words_in f n p g) (mode_marks_in f n p g)

-- L and D that mode words say: "Compact: L − 1 in 2 bits, D − 1 in 6 … Full: 5 and 11 bits"
unfoldable pub said_layers : Bool → List ℕ → ℕ
said_layers false ms = get_or ms 0 0 / 4 + 1
said_layers true ms = (get_or ms 0 0 * 16 + get_or ms 1 0) / 8 + 1

unfoldable pub said_words : Bool → List ℕ → ℕ
said_words false ms = get_or ms 0 0 % 4 * 16 + get_or ms 1 0 + 1
said_words true ms = (get_or ms 1 0 % 8 * 16 + get_or ms 2 0) * 16 + get_or ms 3 0 + 1

-- not 16: L gives this side, and D is at most n − 3, "with n the words of the shape that L names"
unfoldable pub lawful_mode : Bool → ℕ → ℕ → ℕ → Bool
lawful_mode f n L D = eqb (side f L) n && leb (D + 3) (words f L)

-- which of the two fails (document 02, 6/12, "For 16: 1 if the side's condition fails, 2 if D's, 3 if both")
unfoldable pub side_failed : Bool → ℕ → ℕ → ℕ
side_failed f n L = cond (eqb (side f L) n) 0 1

unfoldable pub words_failed : Bool → ℕ → ℕ → ℕ
words_failed f L D = cond (leb (D + 3) (words f L)) 0 2

unfoldable pub failed_mode : Bool → ℕ → ℕ → ℕ → ℕ
failed_mode f n L D = side_failed f n L + words_failed f L D

-- The block's stage word by word, as demand 3 takes it; walk has it over lists of words, and its `BlockIn` says that it is the same

unfoldable pub block_words_in : Bool → ℕ → ℕ → List ℕ → List ℕ
block_words_in f L p g = tabulate (block_word f L p g) (words f L)

-- "A data word (never a check word, and never a mode word) of all 0s or all 1s is marked too"
unfoldable pub block_mark : Bool → ℕ → ℕ → ℕ → List ℕ → ℕ → ℕ
block_mark f L D p g w = cond (ltb w D && flat (word_size L) (block_word f L p g w)) 1 (unread (word_size L) (block_module f L p g w))

unfoldable pub block_marks_in : Bool → ℕ → ℕ → ℕ → List ℕ → List ℕ
block_marks_in f L D p g = tabulate (block_mark f L D p g) (words f L)

-- the corrected block; none is 17
unfoldable pub block_in : Bool → ℕ → ℕ → ℕ → List ℕ → Option (List ℕ)
block_in f L D p g = let K = words f L - D in nearest (size_of (word_size L)) K K (block_words_in f L p g) (block_marks_in f L D p g)

-- the two counts: "words with an unread module, and fully read words that differ from the block found"
unfoldable pub unread_words : Bool → ℕ → ℕ → List ℕ → ℕ
unread_words f L p g = count (words f L) (λ w. eqb (unread (word_size L) (block_module f L p g w)) 1)

unfoldable pub wrong_words : Bool → ℕ → ℕ → List ℕ → List ℕ → ℕ
wrong_words f L p g found =
    count (words f L) (λ w. not (eqb (unread (word_size L) (block_module f L p g w)) 1) && not (eqb (block_word f L p g w) (get_or found w 0)))
