-- Document 01's worked cases ("Tags on the bench", marked P): one table, in the document's order, and one statement, that each case holds
-- by the definitions that the contracts cite.
-- Assumes nothing.
use Rattle.std.specs.Prelude.{◌≡◌, refl, Bool, true, false, not, List, [], ◌∷◌, ℕ, ◌+◌, ◌*◌, leb, length, take, drop, replicate}
use Rattle.list_laws.specs.Range.{count, all}
use Rattle.finite_field.specs.Field.{size_of, times_x, shift, times}
use Rattle.block_code.specs.Block.{value_from}
use Rattle.block_code.specs.Nearest.{differ, unread, is_near, or_else, first_of, search, nearest}
use Rattle.reed_solomon.specs.Correct.{correct_of}
use Rattle.stream.specs.Bits.{bits, value, all_ones}
use Rattle.stream.specs.Codes.{chars, table, row, entry, width, position, code_of, has, home, coded}
use Rattle.stream.specs.Latches.{paths, path, latch_code, path_bits, latch_bits}
use Rattle.stream.specs.Stream.{target, char_bits, run_length, run_set, count_bits, bytes_bits, binary_bits, part_bits}
use Rattle.stream.specs.Stream.{stream_from, next_part, bits_of}
use Rattle.stream.specs.Stuffing.{flat, put, fill, finish, stuff_from, stuff}
use Rattle.symbol.specs.Shapes as shape
use Rattle.encoder.specs.Plan.{least_check, fits}
use Rattle.encoder.specs.ModeMessage.{mode_data}
use Rattle.recovery.specs.Stages.{said_layers, said_words}

-- a family is full (true) or compact (false), L its layers
pub data Case : Type 0 where
  -- a message is these words of B bits
  message-is : (B : ℕ) (text words : List ℕ) → Case
  -- a shape has so many bits, words, bits that are skipped
  has-bits has_words skips : (full : Bool) (L n : ℕ) → Case
  -- a shape allows D data words at a percentage, and no more
  most-words : (percent : ℕ) (full : Bool) (L D : ℕ) → Case
  -- the first mode bits of a compact symbol say L and D
  mode-says : (mode_bits : List ℕ) (L D : ℕ) → Case
  -- words of B bits were received, some marked, in a block with K check words: this valid block is within the limit, or it isn't
  within beyond : (B K : ℕ) (received marks block : List ℕ) → Case
  -- the corrector answers with this block
  corrected : (B K : ℕ) (received marks block : List ℕ) → Case

-- mode bits as words of 4 bits
abbrev mode_words_of : List ℕ → List ℕ
mode_words_of l = value 0 (take 4 l) ∷ value 0 (drop 4 l) ∷ []

-- what a case says
abbrev pub Holds : Case → Type 0
Holds (message-is B text words) = stuff B (bits_of text) ≡ words
Holds (has-bits full L n) = shape.bits full L ≡ n
Holds (has_words full L n) = shape.words full L ≡ n
Holds (skips full L n) = shape.skipped full L ≡ n
-- D is at most n; so none of the n numbers above D is allowed
Holds (most-words percent full L D) =
    (fits percent full L D ≡ true) × (all (shape.words full L) (λ k. not (fits percent full L (D + 1 + k))) ≡ true)
-- the reader takes them so, and the maker writes them
Holds (mode-says mode_bits L D) =
    let ms = mode_words_of mode_bits in (said_layers false ms ≡ L) × (said_words false ms ≡ D) × (mode_data false L D ≡ ms)
Holds (within B K received marks block) = is_near (size_of B) K K received marks block ≡ true
Holds (beyond B K received marks block) = leb (2 * differ received marks block + unread marks) K ≡ false
-- in a buffer that held 1s
Holds (corrected B K received marks block) =
    correct_of B K received marks (replicate (length received) 1) ≡ record { number = 0; words = block }

abbrev zeros : List ℕ
zeros = replicate 7 0

unfoldable pub cases : List Case
cases =
    -- "in 6-bit words "A" is 5"
    message-is 6 (65 ∷ []) (5 ∷ [])
    -- ""POT" is 35, 2, 47"
    ∷ message-is 6 (80 ∷ 79 ∷ 84 ∷ []) (35 ∷ 2 ∷ 47 ∷ [])
    -- ""12" is 60, 26, 31"
    ∷ message-is 6 (49 ∷ 50 ∷ []) (60 ∷ 26 ∷ 31 ∷ [])
    -- ""aB" is 56, 11, 55, 3"
    ∷ message-is 6 (97 ∷ 66 ∷ []) (56 ∷ 11 ∷ 55 ∷ 3 ∷ [])
    -- "one zero byte is 62, 2, 1, 15"
    ∷ message-is 6 (0 ∷ []) (62 ∷ 2 ∷ 1 ∷ 15 ∷ [])
    -- ""A" in 8-bit words is 23"
    ∷ message-is 8 (65 ∷ []) (23 ∷ [])
    -- "C1 has 104 bits, 17 words, 2 skipped"
    ∷ has-bits false 1 104
    ∷ has_words false 1 17
    ∷ skips false 1 2
    -- "F32 has 1,664 words"
    ∷ has_words true 32 1664
    -- "Largest D at 23 percent in C1 is 10"
    ∷ most-words 23 false 1 10
    -- "at 95 percent C4 allows 0 and F4 allows 1"
    ∷ most-words 95 false 4 0
    ∷ most-words 95 true 4 1
    -- "mode bits 01011100 are L 2, D 29"
    ∷ mode-says (0 ∷ 1 ∷ 0 ∷ 1 ∷ 1 ∷ 1 ∷ 0 ∷ 0 ∷ []) 2 29
    -- "B 4, n 7, K 5, received 0 0 5 0 9 0 0, none marked: all zeros is within the limit"
    ∷ within 4 5 (0 ∷ 0 ∷ 5 ∷ 0 ∷ 9 ∷ 0 ∷ 0 ∷ []) zeros zeros
    ∷ corrected 4 5 (0 ∷ 0 ∷ 5 ∷ 0 ∷ 9 ∷ 0 ∷ 0 ∷ []) zeros zeros
    -- "For the block of all zeros, one wrong and three marked is within"
    ∷ within 4 5 (0 ∷ 0 ∷ 5 ∷ 0 ∷ 9 ∷ 3 ∷ 0 ∷ []) (1 ∷ 0 ∷ 0 ∷ 0 ∷ 1 ∷ 1 ∷ 0 ∷ []) zeros
    ∷ corrected 4 5 (0 ∷ 0 ∷ 5 ∷ 0 ∷ 9 ∷ 3 ∷ 0 ∷ []) (1 ∷ 0 ∷ 0 ∷ 0 ∷ 1 ∷ 1 ∷ 0 ∷ []) zeros
    -- "two wrong and two marked isn't"
    ∷ beyond 4 5 (0 ∷ 0 ∷ 5 ∷ 0 ∷ 9 ∷ 3 ∷ 0 ∷ []) (1 ∷ 0 ∷ 0 ∷ 0 ∷ 0 ∷ 1 ∷ 0 ∷ []) zeros
    ∷ []

abbrev pub All : List Case → Type 0
All [] = Unit {0}
All (c ∷ cs) = Holds c × All cs

infixr 5 ◌&◌
◌&◌ : {A B : Type 0} → A → B → A × B
a & b = (a, b)

-- THE STATEMENT
pub cases-hold : All cases
unfolding cases bits value all_ones chars table row entry width position code_of has home coded paths path latch_code path_bits latch_bits
    target char_bits run_length run_set count_bits bytes_bits binary_bits part_bits stream_from next_part bits_of
    flat put fill finish stuff_from stuff shape.bits shape.word_size shape.words shape.skipped shape.most_words
    least_check fits mode_data said_layers said_words all count times_x shift times value_from is_near or_else first_of search nearest
cases-hold =
    refl & refl & refl & refl & refl & refl
    & refl & refl & refl & refl
    & (refl, refl) & (refl, refl) & (refl, refl)
    & (refl, refl, refl)
    & refl & refl & refl & refl & refl
    & tt
