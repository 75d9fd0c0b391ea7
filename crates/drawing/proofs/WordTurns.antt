-- Words drawn one after the other through a table of places.
-- Assumes nothing.
use mathlib.Core.Path.{◌≡◌, refl, sym, ap, ◌∙◌}
use mathlib.Core.List.{List}
use Prim.Native.Nat.{ℕ, ◌+◌, ◌*◌, ◌≤◌, ◌<◌}
use native.Mathlib.Omega.{arith}
use lib.ListN.{length, get_or, take}
use Rattle.std.proofs.lemmas.List.{length-take, get_or-take}
use borrow.Author.Tests.{lt-ltb}
use Rattle.list_laws.specs.Writes.{writes, writes-none, writes-join, writes-cong}
use Rattle.symbol.specs.Drawing.{bit_of, words_bit}
use Rattle.symbol.specs.GridWords.{word-bit}
use Rattle.symbol.specs.Tables.{part, length-part, part-at, word_room}

-- the skipped places are the table's first
pub zeros-drawn : (places : List ℕ) (skip : ℕ) → skip ≤ length places → (l : List ℕ) {g : List ℕ}
    → g ≡ writes l (λ i. get_or (take skip places) i 0) (λ i. 0) (length (take skip places))
    → g ≡ writes l (λ i. get_or places i 0) (λ i. 0) skip
zeros-drawn places skip h l e =
    e
    ∙ ap (writes l (λ i. get_or (take skip places) i 0) (λ i. 0))
    (let z : length (take skip places) ≡ skip = omega (arith, length-take skip places) in z)
    ∙ writes-cong l _ _ _ _ skip (λ i k. get_or-take skip places i 0 (omega arith)) (λ i k. refl)

module _ (size skip : ℕ) (places words : List ℕ) where
  -- the bits of n words, which come after the skipped
  abbrev pub words_drawn : List ℕ → ℕ → List ℕ
  words_drawn l n = writes l (λ k. get_or places (skip + k) 0) (λ k. words_bit size skip words (skip + k)) n

  pub no_words : (l : List ℕ) → l ≡ words_drawn l (0 * size)
  no_words l = writes-none l _ _ ∙ ap (words_drawn l) (let z : 0 ≡ 0 * size = omega arith in z)

  pub skipped-bit : (i : ℕ) → i < skip → 0 ≡ words_bit size skip words i
  unfolding words_bit
  skipped-bit i h = rw (lt-ltb i skip h) refl

  module _ (room : skip + length words * size ≤ length places) (w : ℕ) (h : w < length words) where
    abbrev places_of : List ℕ
    places_of = part places (skip + w * size) size

    before : skip + w * size + size ≤ length places
    before = omega (arith, room, word_room size skip w (length words) h)

    pub word-drawn : (l : List ℕ) {g i : List ℕ} → g ≡ words_drawn l (w * size)
        → i ≡ writes g (λ b. get_or places_of b 0) (bit_of (length places_of) (get_or words w 0)) (length places_of) → i ≡ words_drawn l ((w + 1) * size)
    word-drawn l {g} {i} e f =
        f
        ∙ ap (λ n. writes g (λ b. get_or places_of b 0) (bit_of n (get_or words w 0)) n) (length-part places (skip + w * size) size before)
        ∙ ap (λ x. writes x (λ b. get_or places_of b 0) (bit_of size (get_or words w 0)) size) e
        ∙ writes-cong (words_drawn l (w * size)) _ _ _ _ size
        (λ b k. part-at places (skip + w * size) size before b k
        ∙ ap (λ x. get_or places x 0) (let z : skip + w * size + b ≡ skip + (w * size + b) = omega arith in z))
        (λ b k. sym (word-bit size skip words w b k))
        ∙ writes-join l (λ k. get_or places (skip + k) 0) (λ k. words_bit size skip words (skip + k)) (w * size) size
        ∙ ap (words_drawn l) (let z : w * size + size ≡ (w + 1) * size = omega arith in z)

  -- all words, after the skipped bits
  pub words-drawn : (l : List ℕ) (w : ℕ) {g h : List ℕ} → g ≡ writes l (λ i. get_or places i 0) (λ i. 0) skip → h ≡ words_drawn g (w * size)
      → w ≡ length words → h ≡ writes l (λ i. get_or places i 0) (words_bit size skip words) (skip + length words * size)
  words-drawn l w {g} {h} e f all =
      f
      ∙ ap (λ x. words_drawn x (w * size)) (e ∙ writes-cong l _ _ _ _ skip (λ i k. refl) skipped-bit)
      ∙ writes-join l (λ i. get_or places i 0) (words_bit size skip words) skip (w * size)
      ∙ ap (λ n. writes l (λ i. get_or places i 0) (words_bit size skip words) (skip + n * size)) all
