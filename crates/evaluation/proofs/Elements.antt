-- Words as elements of the field, as the loops meet them: a product by a power and a sum in one step, and a buffer filled with words.
-- Assumes nothing.
use mathlib.Core.Path.{◌≡◌, refl, sym, ap, ◌∙◌, subst}
use mathlib.Core.List.{List}
use Prim.Native.Nat.{ℕ, zero, suc, ◌≤◌, ◌<◌}
use native.Mathlib.Omega.{arith}
use native.Mathlib.Decide.{ℕ_discrete, dec_lt}
use lib.Bits.{xor_lt}
use lib.Pow.{pow_pos}
use lib.ListN.{length, get_or, set, replicate}
use lib.Seq.{get_or-set_same, get_or-set_other}
use Rattle.algebra.specs.Sums.{pow}
use Rattle.list_laws.specs.Filled.{filled, get_or-filled, get_or-unfilled}
use Rattle.finite_field.specs.Xor.{◌⊕◌}
use Rattle.finite_field.specs.Field.{WordSize, bits, Word, product, power}
use Rattle.finite_field.specs.FieldLaws.{product-word}
use Rattle.finite_field.specs.Instance.{word_field, word, x, word-xor, word-times-power}
use Rattle.evaluation.specs.Words.{Words, ZeroFrom}

-- what a loop that fills the buffer l has not come to is as it was
pub not-yet-filled : (f : ℕ → ℕ) (n k : ℕ) (l : List ℕ) {b : List ℕ} → b ≡ filled f n l → n ≤ k → get_or b k 0 ≡ get_or l k 0
not-yet-filled f n k l e h = ap (λ b. get_or b k 0) e ∙ get_or-unfilled f 0 n k l h

zero-at : (k j : ℕ) → ◌≡◌ {A = ℕ} (get_or (replicate k 0) j 0) 0
zero-at zero j = refl
zero-at (suc k) zero = refl
zero-at (suc k) (suc j) = zero-at k j

-- an array of zeros
pub zeros-from : (k : ℕ) {l : List ℕ} → l ≡ replicate k 0 → ZeroFrom 0 l
zeros-from k e j _ = ap (λ x. get_or x j 0) e ∙ zero-at k j

module _ (s : WordSize) where
  pub xor-word : {a b : ℕ} → Word s a → Word s b → Word s (a ⊕ b)
  xor-word {a} {b} ha hb = xor_lt (bits s) a b ha hb

  -- a · 2^k + b
  pub step-word : {a b : ℕ} (k : ℕ) → Word s a → Word s b → Word s (product s a (power s k) ⊕ b)
  step-word {a} k ha hb = xor-word (product-word s a (power s k) ha) hb

  pub step-element : {a b : ℕ} (k : ℕ) → Word s a → Word s b
      → word s (product s a (power s k) ⊕ b)
      ≡ (word_field s).add ((word_field s).mul (word s a) (pow (word_field s) (x s) k)) (word s b)
  step-element {a} {b} k ha hb =
      word-xor s (product-word s a (power s k) ha) hb ∙ ap (λ z. (word_field s).add z (word s b)) (word-times-power s k ha)

  -- a buffer of words, filled with words
  pub filled-words : (f : ℕ → ℕ) (n : ℕ) (l : List ℕ) → ((j : ℕ) → j < n → Word s (f j)) → Words s l → Words s (filled f n l)
  filled-words f n l hf hl j = by (dec_lt j n)
    where
      by : Dec (j < n) → Word s (get_or (filled f n l) j 0)
      by (yes h) = subst (Word s) (sym (get_or-filled f 0 n j l h)) (hf j h)
      by (no h) = let k : n ≤ j = omega arith in subst (Word s) (sym (get_or-unfilled f 0 n j l k)) (hl j)

  -- a list of words with a word stored
  pub set_words : (l : List ℕ) (j a : ℕ) → Words s l → Word s a → j < length l → Words s (set l j a)
  set_words l j a hl ha h i = by (ℕ_discrete i j)
    where
      by : Dec (i ≡ j) → Word s (get_or (set l j a) i 0)
      by (yes e) = rw (e, get_or-set_same l j a 0 h) ha
      by (no ne) = rw (get_or-set_other l j i a 0 ne) (hl i)

  -- zeros are words
  pub zero-words : (l : List ℕ) → ZeroFrom 0 l → Words s l
  zero-words l zeros j = rw (zeros j (omega arith)) (pow_pos (bits s))
