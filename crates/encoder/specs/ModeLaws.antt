-- Mode words: data words stored at the front of a block, and what they are.
-- Assumes nothing.
use Rattle.std.specs.Prelude.{◌≡◌, Bool, false, List, [], ◌∷◌, ◌++◌, ℕ, ◌+◌, ◌*◌, ◌-◌, ◌/◌, ◌%◌, ◌≤◌, length, take, set}
use Rattle.std.proofs.Math.Path.{refl}
use Rattle.std.proofs.Common.{sym, ap, ◌∙◌, subst, mod-lt, arith, length-append}
use Rattle.std.proofs.Math.Bool.{true}
use Rattle.finite_field.specs.Field.{size_of}
use Rattle.block_code.specs.Block.{Words, Valid}
use Rattle.block_code.specs.CheckWords.{check_words_of, with_check_words}
use Rattle.block_code.specs.CheckWordsLaws.{length-check-words, check-words-valid}
use Rattle.block_code.specs.WordLists.{words-cons, words-below}
use Rattle.symbol.specs.Places.{mode_run}
use Rattle.encoder.specs.ModeMessage.{mode_data, mode_checks, mode_codewords}

-- two or four words stored one by one at the front
pub stored-two : (l : List ℕ) (a b : ℕ) → 2 ≤ length l → take 2 (set (set l 0 a) 1 b) ≡ a ∷ b ∷ []
stored-two [] a b h = absurd (omega arith)
stored-two (x ∷ []) a b h = absurd (omega arith)
stored-two (x ∷ y ∷ l) a b h = refl

pub stored-four : (l : List ℕ) (a b c d : ℕ) → 4 ≤ length l → take 4 (set (set (set (set l 0 a) 1 b) 2 c) 3 d) ≡ a ∷ b ∷ c ∷ d ∷ []
stored-four [] a b c d h = absurd (omega arith)
stored-four (x ∷ []) a b c d h = absurd (omega arith)
stored-four (x ∷ y ∷ []) a b c d h = absurd (omega arith)
stored-four (x ∷ y ∷ z ∷ []) a b c d h = absurd (omega arith)
stored-four (x ∷ y ∷ z ∷ w ∷ l) a b c d h = refl

-- 4 bits of a number before words of 4 bits
put : (v : ℕ) (l : List ℕ) → Words (size_of 4) l → Words (size_of 4) (v % 16 ∷ l)
put v l h = words-cons (size_of 4) (v % 16) l (mod-lt v (omega arith)) h

none : Words (size_of 4) []
none = words-below (size_of 4) [] 0 refl (λ i h. absurd (omega arith))

-- words of 4 bits stored at the front are words
pub two-words : (l : List ℕ) (a b : ℕ) → 2 ≤ length l → Words (size_of 4) (take 2 (set (set l 0 (a % 16)) 1 (b % 16)))
two-words l a b h = subst (Words (size_of 4)) (sym (stored-two l (a % 16) (b % 16) h)) (put a (b % 16 ∷ []) (put b [] none))

pub four-words : (l : List ℕ) (a b c d : ℕ) → 4 ≤ length l
    → Words (size_of 4) (take 4 (set (set (set (set l 0 (a % 16)) 1 (b % 16)) 2 (c % 16)) 3 (d % 16)))
four-words l a b c d h =
    subst (Words (size_of 4)) (sym (stored-four l (a % 16) (b % 16) (c % 16) (d % 16) h))
    (put a (b % 16 ∷ c % 16 ∷ d % 16 ∷ []) (put b (c % 16 ∷ d % 16 ∷ []) (put c (d % 16 ∷ []) (put d [] none))))

pub mode-data-words : (f : Bool) (L D : ℕ) → Words (size_of 4) (mode_data f L D)
unfolding mode_data
mode-data-words false L D = let v = (L - 1) * 64 + (D - 1) in put (v / 16) (v % 16 ∷ []) (put v [] none)
mode-data-words true L D =
    let v = (L - 1) * 2048 + (D - 1) in
    put (v / 4096) (v / 256 % 16 ∷ v / 16 % 16 ∷ v % 16 ∷ [])
    (put (v / 256) (v / 16 % 16 ∷ v % 16 ∷ []) (put (v / 16) (v % 16 ∷ []) (put v [] none)))

-- a block whose data words are the mode's, with check words
pub mode-filled : (f : Bool) (L D d : ℕ) (l : List ℕ) → take d l ≡ mode_data f L D → length l - d ≡ mode_checks f
    → with_check_words (size_of 4) d l ≡ mode_codewords f L D
unfolding mode_codewords
mode-filled f L D d l e h =
    ap (λ ws. ws ++ check_words_of (size_of 4) (length l - d) ws) e ∙ ap (λ k. mode_data f L D ++ check_words_of (size_of 4) k (mode_data f L D)) h

pub length-mode-words : (f : Bool) (L D : ℕ) → length (mode_codewords f L D) ≡ mode_run f
unfolding mode_codewords
length-mode-words f L D =
    length-append (mode_data f L D) _ ∙ ap (λ n. length (mode_data f L D) + n) (length-check-words (size_of 4) (mode_checks f) (mode_data f L D)) ∙ go f
  where
    go : (f : Bool) → length (mode_data f L D) + mode_checks f ≡ mode_run f
    go false = unfold mode_data mode_checks mode_run in refl
    go true = unfold mode_data mode_checks mode_run in refl

pub mode-valid : (f : Bool) (L D : ℕ) → Valid (size_of 4) (mode_checks f) (mode_codewords f L D)
unfolding mode_codewords
mode-valid f L D = check-words-valid (size_of 4) (mode_checks f) (mode_data f L D) (mode-data-words f L D)
