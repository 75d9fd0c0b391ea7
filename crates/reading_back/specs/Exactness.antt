-- Demand 3's first half, over the definition that the corrector's contract cites: "Whatever words and marks come in, given lawful
-- arguments, the corrector answers exactly when some block with correct check words differs from the readable words in r places and
-- 2r + e is at most K, with e words marked unread and K check words. That block is the answer. Every other block with correct check
-- words is then beyond that limit."
-- Assumes nothing.
use Rattle.std.specs.Prelude.{◌≡◌, refl, ◌≢◌, ◌↔◌, ◌⊎◌, Bool, true, false, not, cond, List, [], ◌∷◌, ℕ, ◌+◌, ◌*◌, ◌≤◌, ◌<◌, length}
use Rattle.std.proofs.Common.{sym, subst, inl, inr, arith}
use Rattle.std.proofs.Math.Option.{Option, none, some}
use Rattle.list_laws.specs.Range.{all}
use Rattle.finite_field.specs.Field.{size_of}
use Rattle.block_code.specs.Block.{Valid}
use Rattle.block_code.specs.Nearest.{unread, differ, nearest}
use Rattle.reed_solomon.specs.Correct.{Answer, refused, answer, same_lengths, lawful_size, lawful_counts, lawful_words, correct_of}

-- four tests in a row, with the number of each
abbrev tested : Bool → Bool → Bool → Bool → List ℕ → Answer → Answer
tested a b c d before rest =
    cond (not a) (refused 31 before)
    (cond (not b) (refused 32 before) (cond (not c) (refused 32 before) (cond (not d) (refused 33 before) rest)))

-- B bits a word, K check words; `before` is what the written slice held
module _ (B K : ℕ) (received marks before : List ℕ) where
  abbrev pub corrected : Answer
  corrected = correct_of B K received marks before

  -- "Arguments are lawful when no corrector's number but 34 applies"
  pub record LawfulArguments : Type 0 where
    pub not-31 : corrected.number ≢ 31
    pub not-32 : corrected.number ≢ 32
    pub not-33 : corrected.number ≢ 33

  -- the same as the conditions of these numbers, each word's value asked for only where it isn't marked
  pub record LawfulTests : Type 0 where
    pub lengths : same_lengths received marks before ≡ true
    pub size : lawful_size B ≡ true
    pub counts : lawful_counts (size_of B) K (length received) ≡ true
    pub words : lawful_words (size_of B) received marks ≡ true

  -- "A block with correct check words is a valid block of n words, each below 2^B"
  pub record CorrectChecks (block : List ℕ) : Type 0 where
    pub size : length block ≡ length received
    pub valid : Valid (size_of B) K block

  -- 2r + e: "r" counts the readable words, those marked 0, that are unlike the block's
  abbrev pub distance : List ℕ → ℕ
  distance block = 2 * differ received marks block + unread marks

  abbrev pub WithinLimit : List ℕ → Type 0
  WithinLimit block = CorrectChecks block × (distance block ≤ K)

  -- THE STATEMENT
  pub record Exact : Type 0 where
    -- "the corrector answers exactly when some block with correct check words … 2r + e is at most K"
    pub answers-exactly : corrected.number ≡ 0 ↔ ((block : List ℕ) × WithinLimit block)
    -- "That block is the answer": what the written slice holds is within the limit, and any block within the limit is what it holds
    pub answer-within : corrected.number ≡ 0 → WithinLimit corrected.words
    pub within-answered : (block : List ℕ) → WithinLimit block → corrected ≡ record { number = 0; words = block }
    -- "Every other block with correct check words is then beyond that limit"
    pub others-beyond : corrected.number ≡ 0 → (block : List ℕ) → CorrectChecks block → block ≢ corrected.words → K < distance block
    pub one-within : (a b : List ℕ) → WithinLimit a → WithinLimit b → a ≡ b
    -- number 34: "no valid block with 2r + e at most K". The written slice is as it was
    pub refuses-exactly : corrected.number ≡ 34 ↔ ((block : List ℕ) → ¬ WithinLimit block)
    pub refused-untouched : corrected.number ≡ 34 → corrected.words ≡ before
    -- and there is no other answer
    pub answers-or-refuses : (corrected.number ≡ 0) ⊎ (corrected.number ≡ 34)

  abbrev pub found : Option (List ℕ)
  found = nearest (size_of B) K K received marks

  -- past the four tests, the answer is the nearest block
  pub judged : LawfulTests → corrected ≡ answer found before
  judged t = go t.lengths t.size t.counts t.words
    where
      go : {a b c d : Bool} {rest : Answer} → a ≡ true → b ≡ true → c ≡ true → d ≡ true → tested a b c d before rest ≡ rest
      go p q r s = rw (p, q, r, s) refl

  passed : (a b c d : Bool) (rest : Answer) → same_lengths received marks before ≡ a → lawful_size B ≡ b
      → lawful_counts (size_of B) K (length received) ≡ c → lawful_words (size_of B) received marks ≡ d
      → (tested a b c d before rest).number ≢ 31 → (tested a b c d before rest).number ≢ 32 → (tested a b c d before rest).number ≢ 33
      → LawfulTests
  passed false b c d rest p q r s h i j = absurd (h refl)
  passed true false c d rest p q r s h i j = absurd (i refl)
  passed true true false d rest p q r s h i j = absurd (i refl)
  passed true true true false rest p q r s h i j = absurd (j refl)
  passed true true true true rest p q r s h i j = record { lengths = p; size = q; counts = r; words = s }

  answer-number : (o : Option (List ℕ)) → ((answer o before).number ≡ 0) ⊎ ((answer o before).number ≡ 34)
  answer-number (some block) = inl refl
  answer-number none = inr refl

  pub number_is : LawfulTests → (corrected.number ≡ 0) ⊎ (corrected.number ≡ 34)
  number_is t = subst (λ (a : Answer). (a.number ≡ 0) ⊎ (a.number ≡ 34)) (sym (judged t)) (answer-number found)

  -- the numbers say no more and no less than the tests
  pub lawful-tests : LawfulArguments ↔ LawfulTests
  lawful-tests = (
    λ l. passed _ _ _ _ _ refl refl refl refl l.not-31 l.not-32 l.not-33,
    λ t.
        record {
          not-31 = between _ 31 (omega arith) (omega arith) (number_is t);
          not-32 = between _ 32 (omega arith) (omega arith) (number_is t);
          not-33 = between _ 33 (omega arith) (omega arith) (number_is t);
        },
  )
    where
      between : (m k : ℕ) → 0 < k → k < 34 → (m ≡ 0) ⊎ (m ≡ 34) → m ≢ k
      between m k h l (inl p) e = omega arith
      between m k h l (inr p) e = omega arith

-- a marked word's value is ignored: marked, 65,535 is lawful among words of 4 bits
pub lawful-met : LawfulArguments 4 5 (0 ∷ 0 ∷ 5 ∷ 0 ∷ 65535 ∷ 3 ∷ 0 ∷ []) (1 ∷ 0 ∷ 0 ∷ 0 ∷ 1 ∷ 1 ∷ 0 ∷ []) (9 ∷ 9 ∷ 9 ∷ 9 ∷ 9 ∷ 9 ∷ 9 ∷ [])
unfolding all
lawful-met = (lawful-tests _ _ _ _ _).1 (record { lengths = refl; size = refl; counts = refl; words = refl })
