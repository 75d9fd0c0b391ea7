-- Computed examples of check words and of the corrector (document 01, "Words and checks", "Demand 3's words" and numbers 31 to 34).
-- Assumes nothing.
use Rattle.std.specs.Prelude.{◌≡◌, refl, true, false, List, [], ◌∷◌, map, ℕ, zero, suc, replicate}
use Rattle.std.proofs.Common.{ap, arith}
use Rattle.list_laws.specs.Filled.{tabulate}
use Rattle.list_laws.specs.Range.{count, all}
use Rattle.finite_field.specs.Field.{size_of, times_x, shift, times, power}
use Rattle.block_code.specs.Block.{Words, value_from, value}
use Rattle.block_code.specs.CheckWords.{times_root, generator, divide_step, remainder, check_words_of}
use Rattle.block_code.specs.Nearest.{is_near, or_else, first_of, search, nearest}
use Rattle.block_code.specs.WordLists.{words-cons}
use Rattle.block_code.specs.NearestLaws.{near-test, nearest-some}
use Rattle.reed_solomon.specs.Correct.{Answer, lawful_size, lawful_counts, lawful_words, answer, correct_of}

-- (x + 2^1) .. (x + 2^K) without the leading 1, for the mode words: K is 5 or 6
pub generators : map (generator (size_of 4)) (5 ∷ 6 ∷ []) ≡ (11 ∷ 4 ∷ 6 ∷ 2 ∷ 1 ∷ []) ∷ (7 ∷ 9 ∷ 3 ∷ 12 ∷ 10 ∷ 12 ∷ []) ∷ []
unfolding times_x shift times tabulate times_root generator
generators = refl

-- "The maker fills the tail of the block after the data words with the check words", in the larger word sizes
pub check-words : check_words_of (size_of 8) 3 (23 ∷ 99 ∷ [])
    ∷ check_words_of (size_of 10) 3 (1000 ∷ 5 ∷ [])
    ∷ check_words_of (size_of 12) 3 (4000 ∷ 77 ∷ [])
    ∷ []
    ≡ (15 ∷ 52 ∷ 102 ∷ []) ∷ (731 ∷ 268 ∷ 953 ∷ []) ∷ (171 ∷ 375 ∷ 2685 ∷ []) ∷ []
unfolding times_x shift times tabulate times_root generator divide_step remainder check_words_of
check-words = refl

-- the standard's annex G: ten data words and seven check words of 6 bits
unfoldable pub annex_g : List ℕ
annex_g = 9 ∷ 50 ∷ 1 ∷ 41 ∷ 47 ∷ 2 ∷ 39 ∷ 37 ∷ 1 ∷ 27 ∷ 38 ∷ 50 ∷ 8 ∷ 16 ∷ 10 ∷ 20 ∷ 40 ∷ []

-- "a block of n words, first word the highest coefficient, is valid when its polynomial is zero at 2¹ to 2^K": not at 2^0, nor at 2^8
pub values : map (λ j. value (size_of 6) annex_g (power (size_of 6) j)) (0 ∷ 1 ∷ 2 ∷ 3 ∷ 4 ∷ 5 ∷ 6 ∷ 7 ∷ 8 ∷ [])
    ≡ 28 ∷ 0 ∷ 0 ∷ 0 ∷ 0 ∷ 0 ∷ 0 ∷ 0 ∷ 49 ∷ []
unfolding annex_g times_x shift times value_from
values = refl

-- "within the limit if 2r + e is at most its K": three words wrong, and 6 is at most 7
pub three-wrong :
    is_near (size_of 6) 7 7 (9 ∷ 50 ∷ 1 ∷ 41 ∷ 40 ∷ 2 ∷ 39 ∷ 37 ∷ 1 ∷ 26 ∷ 38 ∷ 50 ∷ 8 ∷ 16 ∷ 11 ∷ 20 ∷ 40 ∷ []) (replicate 17 0) annex_g ≡ true
unfolding annex_g times_x shift times value_from count all is_near
three-wrong = refl

-- with a buffer of two 7s
abbrev tried : ℕ → ℕ → List ℕ → List ℕ → Answer
tried B K received marks = correct_of B K received marks (7 ∷ 7 ∷ [])

abbrev found : List ℕ → Answer
found block = record { number = 0; words = block }

-- "Any other number comes with [..] untouched buffers"
abbrev refused : ℕ → Answer
refused k = record { number = k; words = 7 ∷ 7 ∷ [] }

-- the numbers 0 and 31 to 34: "The value of a marked word is ignored", "Lower numbers come first when several apply"
pub answers :
    -- 1, 2 is valid with K 1; 1, 3 isn't, and one word wrong is beyond the limit; one marked is within, whatever its value
    tried 4 1 (1 ∷ 2 ∷ []) (0 ∷ 0 ∷ [])
    ∷ tried 4 1 (1 ∷ 3 ∷ []) (0 ∷ 0 ∷ [])
    ∷ tried 4 1 (1 ∷ 99 ∷ []) (0 ∷ 1 ∷ [])
    -- "an unmarked word of 2^B or more", "a mark above 1"
    ∷ tried 4 1 (1 ∷ 16 ∷ []) (0 ∷ 0 ∷ [])
    ∷ tried 4 1 (1 ∷ 2 ∷ []) (0 ∷ 2 ∷ [])
    -- "K 0 or at least n", "B not 4, 6, 8, 10, 12", and that before a mark above 1; "the three slices differ in length" before that
    ∷ tried 4 2 (1 ∷ 2 ∷ []) (0 ∷ 0 ∷ [])
    ∷ tried 4 0 (1 ∷ 2 ∷ []) (0 ∷ 0 ∷ [])
    ∷ tried 5 1 (1 ∷ 2 ∷ []) (0 ∷ 0 ∷ [])
    ∷ tried 5 1 (1 ∷ 2 ∷ []) (0 ∷ 2 ∷ [])
    ∷ tried 5 1 (1 ∷ 2 ∷ []) (0 ∷ [])
    -- "n 0"
    ∷ correct_of 4 1 [] [] []
    -- "above 2^B − 1": 16 words of 4 bits; and 31 for the written slice
    ∷ correct_of 4 1 (replicate 16 0) (replicate 16 0) (replicate 16 0)
    ∷ correct_of 4 1 (1 ∷ 2 ∷ []) (0 ∷ 0 ∷ []) (7 ∷ [])
    ∷ []
    ≡ found (1 ∷ 2 ∷ [])
    ∷ refused 34
    ∷ found (1 ∷ 2 ∷ [])
    ∷ refused 33
    ∷ refused 33
    ∷ refused 32
    ∷ refused 32
    ∷ refused 32
    ∷ refused 32
    ∷ refused 31
    ∷ record { number = 32; words = [] }
    ∷ record { number = 32; words = replicate 16 0 }
    ∷ record { number = 31; words = 7 ∷ [] }
    ∷ []
unfolding times_x shift times value_from count all is_near or_else first_of search nearest
answers = refl

-- 32 "B not 4, 6, 8, 10, 12", of the numbers 0 to 16
pub sizes : tabulate lawful_size 17
    ≡ false ∷ false ∷ false ∷ false ∷ true ∷ false ∷ true ∷ false ∷ true ∷ false ∷ true ∷ false ∷ true ∷ false ∷ false ∷ false ∷ false ∷ []
unfolding tabulate
sizes = refl

-- 32 "n [..] above 2^B − 1; K 0 or at least n": the most words of each size and one more; K 1, n − 1, 0 and n
pub most-words : map (λ (c : ℕ × ℕ). lawful_counts (size_of c.0) 1 c.1)
    ((4, 15) ∷ (4, 16) ∷ (6, 63) ∷ (6, 64) ∷ (8, 255) ∷ (8, 256) ∷ (10, 1023) ∷ (10, 1024) ∷ (12, 4095) ∷ (12, 4096) ∷ [])
    ≡ true ∷ false ∷ true ∷ false ∷ true ∷ false ∷ true ∷ false ∷ true ∷ false ∷ []
most-words = refl

pub check-counts : map (λ K. lawful_counts (size_of 4) K 15) (0 ∷ 1 ∷ 14 ∷ 15 ∷ 16 ∷ []) ≡ false ∷ true ∷ true ∷ false ∷ false ∷ []
check-counts = refl

-- 33 "a mark above 1, or an unmarked word of 2^B or more": 15 and 16 in 4 bits
pub lawful-words :
    map (λ (c : List ℕ × List ℕ). lawful_words (size_of 4) c.0 c.1)
    ((15 ∷ 0 ∷ [], 0 ∷ 0 ∷ []) ∷ (0 ∷ 16 ∷ [], 0 ∷ 0 ∷ []) ∷ (0 ∷ 16 ∷ [], 0 ∷ 1 ∷ []) ∷ (0 ∷ 0 ∷ [], 0 ∷ 2 ∷ []) ∷ [])
    ≡ true ∷ false ∷ true ∷ false ∷ []
unfolding all
lawful-words = refl

-- a block of the most words is answered: 15 words of 4 bits, all 0, with K 14
abbrev fifteen : List ℕ
fifteen = replicate 15 0

zero-words : (n : ℕ) → Words (size_of 4) (replicate n 0)
zero-words zero = λ i. omega arith
zero-words (suc n) = words-cons (size_of 4) 0 (replicate n 0) (omega arith) (zero-words n)

pub longest-block : correct_of 4 14 fifteen fifteen (replicate 15 7) ≡ found fifteen
unfolding all count times_x shift times value_from is_near
longest-block =
    ap (λ o. answer o (replicate 15 7))
    (nearest-some (size_of 4) 14 14 fifteen fifteen refl (λ i t. zero-words 15 i) (omega arith) (omega arith)
    ((near-test (size_of 4) 14 14 fifteen fifteen fifteen refl (zero-words 15)).0 tt))
