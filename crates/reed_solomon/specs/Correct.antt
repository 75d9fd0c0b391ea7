-- What the corrector answers (document 01, numbers 31 to 34): a number, and the words that its written slice holds afterwards.
-- Assumes nothing.
use Rattle.std.specs.Prelude.{Bool, not, cond, ◌&&◌, ◌||◌, List, ℕ, ◌^◌, eqb, leb, ltb, length, get_or}
use Rattle.std.proofs.Math.Option.{Option, none, some}
use Rattle.list_laws.specs.Range.{all}
use Rattle.finite_field.specs.Field.{WordSize, bits, size_of}
use Rattle.block_code.specs.Nearest.{marked, nearest}

pub record Answer : Type 0 where
  pub number : ℕ
  pub words : List ℕ

-- a refusal leaves the words as they were
abbrev pub refused : ℕ → List ℕ → Answer
refused n before = record { number = n; words = before }

-- not 31: the three slices are of one length
abbrev pub same_lengths : List ℕ → List ℕ → List ℕ → Bool
same_lengths received marks corrected = eqb (length marks) (length received) && eqb (length corrected) (length received)

-- not 32 for the word size: B is 4, 6, 8, 10 or 12
abbrev pub lawful_size : ℕ → Bool
lawful_size b = eqb (bits (size_of b)) b

-- not 32 for the counts: n is at most 2^B - 1, and K at least 1 and below n
abbrev pub lawful_counts : WordSize → ℕ → ℕ → Bool
lawful_counts s check n = ltb n (2 ^ bits s) && (ltb 0 check && ltb check n)

-- not 33: each mark is 0 or 1, and each word not marked is below 2^B
abbrev pub lawful_words : WordSize → List ℕ → List ℕ → Bool
lawful_words s received marks =
    all (length received) (λ i. leb (get_or marks i 0) 1 && (marked marks i || ltb (get_or received i 0) (2 ^ bits s)))

-- 0 with the block found, or 34
abbrev pub answer : Option (List ℕ) → List ℕ → Answer
answer (some block) before = record { number = 0; words = block }
answer none before = refused 34 before

-- the answer for three slices of one length and a lawful word size
abbrev pub judge_of : WordSize → ℕ → List ℕ → List ℕ → List ℕ → Answer
judge_of s check received marks corrected =
    cond (not (lawful_counts s check (length received))) (refused 32 corrected)
    (cond (not (lawful_words s received marks)) (refused 33 corrected) (answer (nearest s check check received marks) corrected))

abbrev pub correct_of : ℕ → ℕ → List ℕ → List ℕ → List ℕ → Answer
correct_of word_size check received marks corrected =
    cond (not (same_lengths received marks corrected)) (refused 31 corrected)
    (cond (not (lawful_size word_size)) (refused 32 corrected) (judge_of (size_of word_size) check received marks corrected))
