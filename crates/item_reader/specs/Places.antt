-- The reader's place in a list of words: bit j of word w, with the stuffed bits passed over (document 01, "How a grid is read", step 4:
-- "drop the stuffed bits").
-- Assumes nothing.
use Rattle.std.specs.Prelude.{◌≡◌, Bool, true, false, cond, length, take}
use Rattle.std.proofs.Math.Path.{refl, ap, ap₂}
use Rattle.std.proofs.Common.{sym, ◌∙◌, add-one, length-append, length-drop, drop_of_length-le, drop-cons, drop-drop, take-add, take_at, shr-shr}
use mathlib.Core.List.{List, [], ◌∷◌, ◌++◌, append_assoc}
use Prim.Native.Nat.{ℕ, suc, ◌+◌, ◌*◌, ◌-◌, ◌/◌, ◌%◌, ◌^◌, ◌≤◌, ◌<◌}
use native.Mathlib.Omega.{arith}
use Rattle.std.proofs.Math.Decide.{dec_lt}
use Rattle.std.proofs.Math.ListN.{get_or, drop}
use Rattle.std.proofs.Math.Seq.{drop_at, drop-nil}
use Rattle.stream.specs.Bits.{bits, value, length-bits, value-append, value-bits, bits-split}
use Rattle.stream.specs.Stuffing.{flat, word_bits, unstuff_from}

-- how many stream bits a word holds
unfoldable pub word_length : ℕ → ℕ → ℕ
word_length h x = cond (flat h (x / 2)) h (suc h)

-- the stream bits from bit j of word w on
unfoldable pub rest : ℕ → List ℕ → ℕ → ℕ → List ℕ
rest h words w j = drop j (unstuff_from h (drop w words))

pub word-length-most : (h x : ℕ) → word_length h x ≤ suc h
unfolding word_length
word-length-most h x = go (flat h (x / 2))
  where
    go : (t : Bool) → cond t h (suc h) ≤ suc h
    go true = omega arith
    go false = omega arith

-- its bits are its highest
word-bits : (h x : ℕ) → word_bits h x ≡ bits (word_length h x) (x / 2 ^ (suc h - word_length h x))
unfolding word_bits word_length
word-bits h x = go (flat h (x / 2))
  where
    go : (t : Bool) → cond t (bits h (x / 2)) (bits (suc h) x) ≡ bits (cond t h (suc h)) (x / 2 ^ (suc h - cond t h (suc h)))
    go true = ap (λ n. bits h (x / 2 ^ n)) (let e : 1 ≡ suc h - h = omega arith in e)
    go false = ap (bits (suc h)) (omega (arith, ap (λ n. x / 2 ^ n) (let e : 0 ≡ suc h - suc h = omega arith in e)))

pub length-word : (h x : ℕ) → length (word_bits h x) ≡ word_length h x
length-word h x = ap length (word-bits h x) ∙ length-bits (word_length h x) (x / 2 ^ (suc h - word_length h x))

module _ (h : ℕ) (words : List ℕ) where
  pub rest-start : rest h words 0 0 ≡ unstuff_from h words
  unfolding rest
  rest-start = refl

  pub rest_end : (w j : ℕ) → length words ≤ w → rest h words w j ≡ []
  unfolding rest unstuff_from
  rest_end w j g = ap (λ l. drop j (unstuff_from h l)) (drop_of_length-le words g) ∙ drop-nil j

  -- the words from w on, word by word
  pub unstuff-at : (w : ℕ) → w < length words
      → unstuff_from h (drop w words) ≡ word_bits h (get_or words w 0) ++ unstuff_from h (drop (w + 1) words)
  unfolding unstuff_from
  unstuff-at w g = rw (add-one w) (ap (unstuff_from h) (drop-cons words w 0 g))

  -- how many stream bits there are from word w on
  pub length_at : (w : ℕ) → w < length words
      → length (unstuff_from h (drop w words)) ≡ word_length h (get_or words w 0) + length (unstuff_from h (drop (w + 1) words))
  length_at w g =
      let x = get_or words w 0 in
      let later = unstuff_from h (drop (w + 1) words) in
      ap length (unstuff-at w g) ∙ length-append (word_bits h x) later ∙ ap (λ n. n + length later) (length-word h x)

  -- past the last bit of a word stands the next word
  pub rest-next : (w : ℕ) → w < length words → rest h words w (word_length h (get_or words w 0)) ≡ rest h words (w + 1) 0
  unfolding rest
  rest-next w g =
      ap (drop (word_length h (get_or words w 0))) (unstuff-at w g)
      ∙ drop_at (word_bits h (get_or words w 0)) _ (word_length h (get_or words w 0)) (length-word h (get_or words w 0))

  -- n bits of a word, from bit j on
  pub rest-field : (w j n : ℕ) → w < length words → j + n ≤ word_length h (get_or words w 0)
      → rest h words w j ≡ bits n (get_or words w 0 / 2 ^ (suc h - (j + n))) ++ rest h words w (j + n)
  unfolding rest
  rest-field w j n g f =
      from-j ∙ ap₂ ◌++◌ (ap (bits n) number) (sym from-n)
    where
      x : ℕ
      x = get_or words w 0

      size : ℕ
      size = word_length h x

      y : ℕ
      y = x / 2 ^ (suc h - size)

      m : ℕ
      m = size - (j + n)

      head : List ℕ
      head = bits j (y / 2 ^ (n + m))

      mid : List ℕ
      mid = bits n (y / 2 ^ m)

      low : List ℕ
      low = bits m y

      later : List ℕ
      later = unstuff_from h (drop (w + 1) words)

      word : word_bits h x ≡ head ++ (mid ++ low)
      word =
          word-bits h x
          ∙ ap (λ k. bits k y) (let e : size ≡ j + (n + m) = omega (arith, f) in e)
          ∙ bits-split j (n + m) y
          ∙ ap (λ l. head ++ l) (bits-split n m y)

      all : unstuff_from h (drop w words) ≡ head ++ (mid ++ (low ++ later))
      all = unstuff-at w g ∙ ap (λ l. l ++ later) word ∙ simp append_assoc

      from-j : rest h words w j ≡ mid ++ (low ++ later)
      from-j = ap (drop j) all ∙ drop_at head (mid ++ (low ++ later)) j (length-bits j (y / 2 ^ (n + m)))

      from-n : rest h words w (j + n) ≡ low ++ later
      from-n =
          sym (drop-drop n j (unstuff_from h (drop w words)))
          ∙ ap (drop n) from-j
          ∙ drop_at mid (low ++ later) n (length-bits n (y / 2 ^ m))

      number : y / 2 ^ m ≡ x / 2 ^ (suc h - (j + n))
      number =
          shr-shr x (suc h - size) m
          ∙ ap (λ k. x / 2 ^ k) (let e : suc h - size + m ≡ suc h - (j + n) = omega (arith, f, word-length-most h x) in e)

  pub rest-bit : (w j : ℕ) → w < length words → j < word_length h (get_or words w 0)
      → rest h words w j ≡ (get_or words w 0 / 2 ^ (h - j) % 2) ∷ rest h words w (j + 1)
  unfolding bits
  rest-bit w j g f =
      rest-field w j 1 g (omega arith)
      ∙ ap (λ y. y % 2 ∷ rest h words w (j + 1))
      (omega (arith, ap (λ k. get_or words w 0 / 2 ^ k) (let e : suc h - (j + 1) ≡ h - j = omega arith in e)))

  -- where a bit is left there is a word
  pub some_left : (w j : ℕ) → 1 ≤ length (rest h words w j) → w < length words
  some_left w j g = go (dec_lt w (length words))
    where
      go : Dec (w < length words) → w < length words
      go (yes k) = k
      go (no k) = absurd (omega (arith, ap length (rest_end w j (omega arith))))

-- n bits of l say v, and l' is left
pub record Taken (l : List ℕ) (n v : ℕ) (l' : List ℕ) : Type 0 where
  pub enough : n ≤ length l
  pub says : v ≡ value 0 (take n l)
  pub left : l' ≡ drop n l

pub taken_none : (l : List ℕ) → Taken l 0 0 l
unfolding value
taken_none l = record { enough = omega arith; says = refl; left = refl }

-- n bits more, those of the number y
pub taken_more : {l l' l'' : List ℕ} {i v : ℕ} (n y : ℕ) → Taken l i v l' → l' ≡ bits n y ++ l'' → Taken l (i + n) (v * 2 ^ n + y % 2 ^ n) l''
taken_more {l} {l'} {l''} {i} {v} n y t e =
    record {
      enough = omega (arith, t.enough, length-drop i l, ap length next, length-append (bits n y) l'', length-bits n y);
      says =
          sym (value-bits n v y)
          ∙ ap (λ v. value v (bits n y)) t.says
          ∙ sym (value-append 0 (take i l) (bits n y))
          ∙ ap (λ q. value 0 (take i l ++ q)) (sym (ap (take n) next ∙ take_at (bits n y) l'' n (length-bits n y)))
          ∙ ap (value 0) (sym (take-add i n l));
      left = sym (ap (drop n) next ∙ drop_at (bits n y) l'' n (length-bits n y)) ∙ drop-drop n i l;
    }
  where
    next : drop i l ≡ bits n y ++ l''
    next = sym t.left ∙ e

-- what reading an item in a set asks: words of a size that 16 bits hold, and the count of the bits left from bit j of word w on
pub record Ready (words : List ℕ) (size w j left set : ℕ) : Type 0 where
  pub least : 1 ≤ size
  pub most : size ≤ 16
  pub known : set < 5
  pub counted : left ≡ length (rest (size - 1) words w j)

-- bit j of word w is stream bit `at`
pub record Stands (h : ℕ) (words : List ℕ) (at w j : ℕ) : Type 0 where
  pub within : at ≤ length (unstuff_from h words)
  pub here : rest h words w j ≡ drop at (unstuff_from h words)

pub stands-start : (h : ℕ) (words : List ℕ) → Stands h words 0 0 0
stands-start h words = record { within = omega arith; here = rest-start h words }

-- n bits further
pub stands_on : {h : ℕ} {words : List ℕ} {at w j n v w' j' : ℕ} → Stands h words at w j → Taken (rest h words w j) n v (rest h words w' j')
    → Stands h words (at + n) w' j'
stands_on {h} {words} {at} {w} {j} {n} s t =
    record {
      within = omega (arith, s.within, t.enough, ap length s.here, length-drop at (unstuff_from h words));
      here = t.left ∙ ap (drop n) s.here ∙ drop-drop n at (unstuff_from h words);
    }
