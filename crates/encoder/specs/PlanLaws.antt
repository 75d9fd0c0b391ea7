-- Why the search for a shape may count words as `words_needed` does, and stop at the first that fits.
-- Assumes nothing.
use Rattle.std.specs.Prelude.{◌≡◌, refl, Bool, true, false, cond, ◌&&◌, List, ℕ, ◌+◌, ◌*◌, ◌-◌, ◌/◌, ◌≤◌, ◌<◌, ltb, length}
use Rattle.std.proofs.Common.{sym, ap₂, ◌∙◌, mul-le-mul, mul-le-mul_right, le_trans, le_refl, div-add-mod', arith, leb→le, le-leb, leb-true, leb-false, ltb-true, ltb-false}
use Rattle.std.proofs.Math.Path.{ap}
use Rattle.std.proofs.Math.Dec.{leb}
use Rattle.std.proofs.lemmas.Bool.{lt-leb}
use Rattle.std.proofs.Math.Option.{Option, none, some}
use Rattle.list_laws.specs.Search.{first_from, first_found}
use Rattle.list_laws.specs.Tests.{both-parts, holds}
use Rattle.stream.specs.Below.{Bytes}
use Rattle.stream.specs.Stream.{bits_of}
use Rattle.stream.specs.Stuffing.{stuff}
use Rattle.stream.proofs.PartLaws.{words-of-message}
use Rattle.stream_writer.specs.Encoding.{words_needed}
use Rattle.symbol.specs.Shapes.{side, bits, word_size, words, most_words, is_full, layers, number_of, bits_most, word-size-range}
use Rattle.encoder.specs.Answer.{chosen}
use Rattle.encoder.specs.Plan.{data_words_of, least_check, fits, listed, fits_listed, planned}

-- words of more than 19,968 bits are more than any shape has
too_many : (f : Bool) (L D : ℕ) → L ≤ 32 → 19968 < D * word_size L → words f L < D
unfolding words
too_many f L D h k = go (leb D (bits f L / word_size L)) refl
  where
    go : (b : Bool) → leb D (bits f L / word_size L) ≡ b → bits f L / word_size L < D
    go true e =
        absurd (omega (
          arith,
          mul-le-mul_right (word_size L) (leb-true D (bits f L / word_size L) e),
          div-add-mod' (bits f L) (word_size L),
          bits_most f L h,
        ))
    go false e = leb-false D (bits f L / word_size L) e

-- what the code's two tests, with n in place of the shape's words, say of `fits`
module _ (percent : ℕ) (f : Bool) (L D : ℕ) {n : ℕ} (e : n ≡ words f L) where
  pub too_few : n < D + least_check percent n → false ≡ fits percent f L D
  unfolding fits
  too_few h = rw (sym e) (sym (ap (λ b. b && leb D (most_words f)) (lt-leb (D + least_check percent n) n h)))

  pub enough : (most : ℕ) → most ≡ most_words f → D + least_check percent n ≤ n → leb D most ≡ fits percent f L D
  unfolding fits
  enough most m h = rw (sym e) (sym (ap₂ (λ b k. b && leb D k) (le-leb (D + least_check percent n) n h) (sym m)))

not-too-many : (percent : ℕ) (f : Bool) (L D : ℕ) → words f L < D → fits percent f L D ≡ false
not-too-many percent f L D h = sym (too_few percent f L D refl (omega arith))

-- a message of more than 4,992 bytes takes more words than any shape has
long-words : (message : List ℕ) → Bytes message → 4992 < length message → (f : Bool) (L : ℕ) → L ≤ 32
    → words f L < length (stuff (word_size L) (bits_of message))
long-words message x long f L h =
    too_many f L _ h (omega (arith, words-of-message (word_size L) (omega (arith, word-size-range L)) message x))

-- so it fits none, and neither do the 4,993 words that stand for it
pub needed-fits : (message : List ℕ) → Bytes message → (percent : ℕ) (f : Bool) (L : ℕ) → L ≤ 32
    → fits percent f L (words_needed (word_size L) message) ≡ fits percent f L (length (data_words_of message L))
unfolding words_needed data_words_of
needed-fits message x percent f L h = go (leb (length message) 4992) refl
  where
    go : (b : Bool) → leb (length message) 4992 ≡ b
        → fits percent f L (cond b (length (stuff (word_size L) (bits_of message))) 4993)
        ≡ fits percent f L (length (stuff (word_size L) (bits_of message)))
    go true e = refl
    go false e =
        let long = leb-false (length message) 4992 e in
        not-too-many percent f L 4993 (too_many f L 4993 h (omega (arith, word-size-range L)))
        ∙ sym (not-too-many percent f L (length (stuff (word_size L) (bits_of message))) (long-words message x long f L h))

pub fit_words : (percent : ℕ) (f : Bool) (L D : ℕ) → fits percent f L D ≡ true → D ≤ words f L
unfolding fits
fit_words percent f L D e =
    omega (arith, leb→le (D + least_check percent (words f L)) (words f L) (both-parts (leb (D + least_check percent (words f L)) (words f L)) (leb D (most_words f)) (holds e)).0)

pub words-most : (f : Bool) (L : ℕ) → L ≤ 32 → words f L ≤ 3328
unfolding words
words-most f L h =
    omega (
      arith,
      bits_most f L h,
      div-add-mod' (bits f L) (word_size L),
      mul-le-mul {n₁ = bits f L / word_size L} {m₁ = 6} {n₂ = bits f L / word_size L} {m₂ = word_size L} (le_refl _) (word-size-range L).0,
    )

pub sides-most : (f : Bool) (L : ℕ) → L ≤ 32 → side f L ≤ 151
unfolding side
sides-most false L h = omega arith
sides-most true L h = omega arith

pub number-most : (f : Bool) (L : ℕ) → L ≤ 32 → number_of f L ≤ 36
unfolding number_of
number-most false L h = omega arith
number-most true L h = omega arith

-- small enough that no sum runs over
pub check-most : (percent n : ℕ) → percent ≤ 95 → n ≤ 3328 → percent * n ≤ 316160
check-most percent n h k = le_trans (mul-le-mul {n₁ = percent} {m₁ = n} {n₂ = 95} {m₂ = 3328} h k) (omega arith)

-- so a message that fits has the words that were counted
pub needed-is : (message : List ℕ) (percent : ℕ) (f : Bool) (L : ℕ) → L ≤ 32 → fits percent f L (words_needed (word_size L) message) ≡ true
    → words_needed (word_size L) message ≡ length (data_words_of message L)
unfolding words_needed data_words_of
needed-is message percent f L h t = go (leb (length message) 4992) t
  where
    go : (b : Bool) → fits percent f L (cond b (length (stuff (word_size L) (bits_of message))) 4993) ≡ true
        → cond b (length (stuff (word_size L) (bits_of message))) 4993 ≡ length (stuff (word_size L) (bits_of message))
    go true e = refl
    go false e = absurd (omega (arith, fit_words percent f L 4993 e, too_many f L 4993 h (omega (arith, word-size-range L))))

-- what the list holds
pub listed-bounds : (i : ℕ) → i < 33 → (1 ≤ listed i) × (listed i ≤ 36)
unfolding listed
listed-bounds i h = go (ltb i 4) refl
  where
    go : (b : Bool) → ltb i 4 ≡ b → (1 ≤ cond b (i + 1) (i + 4)) × (cond b (i + 1) (i + 4) ≤ 36)
    go true e = (omega arith, omega (arith, ltb-true i 4 e))
    go false e = (omega arith, omega arith)

pub layers-most : (s : ℕ) → s ≤ 36 → layers s ≤ 32
unfolding layers
layers-most s h = go (ltb 4 s) refl
  where
    go : (b : Bool) → ltb 4 s ≡ b → cond b (s - 4) s ≤ 32
    go true e = omega arith
    go false e = omega (arith, ltb-false 4 s e)

pub number-back : (s : ℕ) → number_of (is_full s) (layers s) ≡ s
unfolding is_full layers number_of
number-back s = go (ltb 4 s) refl
  where
    go : (b : Bool) → ltb 4 s ≡ b → number_of b (cond b (s - 4) s) ≡ s
    go true e = omega (arith, ltb-true 4 s e)
    go false e = refl

-- what the search knows of the shape that it tries: place i of the list, its family, L layers, w words
pub record Tried (message : List ℕ) (i : ℕ) (f : Bool) (L w : ℕ) : Type 0 where
  pub family : f ≡ is_full (listed i)
  pub shaped : L ≡ layers (listed i)
  pub count : w ≡ words_needed (word_size L) message

module _ {message : List ℕ} {i : ℕ} {f : Bool} {L w : ℕ} (t : Tried message i f L w) (h : i < 33) where
  pub tried-layers : (listed i ≤ 36) × (L ≤ 32)
  tried-layers = let b = (listed-bounds i h).1 in (b, omega (arith, t.shaped, layers-most (listed i) b))

  words_are : w ≡ words_needed (word_size L) message
  words_are = t.count

  -- its test is the definition's
  pub tried-fits : (percent : ℕ) → Bytes message → fits percent f L w ≡ fits_listed message percent i
  unfolding fits_listed
  tried-fits percent x =
      ap (fits percent f L) words_are
      ∙ needed-fits message x percent f L tried-layers.1
      ∙ ap₂ (λ f l. fits percent f l (length (data_words_of message l))) t.family t.shaped

  -- and so is its answer
  pub tried-answer : (percent : ℕ) → fits percent f L w ≡ true → chosen (number_of f L) f L w ≡ planned message (listed i)
  unfolding planned
  tried-answer percent e =
      ap (chosen (number_of f L) f L)
      (t.count ∙ needed-is message percent f L tried-layers.1 (sym (ap (fits percent f L) t.count) ∙ e))
      ∙ ap₂ (λ f l. chosen (number_of f l) f l (length (data_words_of message l))) t.family t.shaped
      ∙ ap (λ n. chosen n (is_full (listed i)) (layers (listed i)) (length (data_words_of message (layers (listed i))))) (number-back (listed i))

-- for such a message the search finds nothing
module _ (message : List ℕ) (x : Bytes message) (long : 4992 < length message) (percent : ℕ) where
  none-long : (i : ℕ) → i < 33 → fits_listed message percent i ≡ false
  unfolding fits_listed data_words_of
  none-long i h =
      let L = layers (listed i) in
      not-too-many percent (is_full (listed i)) L (length (stuff (word_size L) (bits_of message)))
      (long-words message x long (is_full (listed i)) L (layers-most (listed i) (listed-bounds i h).1))

  pub long-refused : first_from (fits_listed message percent) 0 33 ≡ none
  long-refused = go (first_from (fits_listed message percent) 0 33) refl
    where
      go : (o : Option ℕ) → first_from (fits_listed message percent) 0 33 ≡ o → o ≡ none
      go none e = refl
      go (some k) e =
          let found = first_found (fits_listed message percent) 33 0 k e in
          let no : false ≡ true = sym (none-long k (omega (arith, found.1))) ∙ found.0 in cc
