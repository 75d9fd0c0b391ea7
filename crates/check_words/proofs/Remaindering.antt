-- The remainder in the tail of a block: one step of the division moves it up and adds a multiple of the generator; the turns over the
-- data words leave the check words.
-- Assumes nothing.
use mathlib.Core.Path.{◌≡◌, refl, sym, ap, ap₂, ◌∙◌}
use mathlib.Core.List.{List, [], ◌∷◌, ◌++◌}
use Prim.Native.Nat.{ℕ, zero, suc, ◌+◌, ◌-◌, ◌≤◌, ◌<◌}
use native.Mathlib.Nat.{le_refl}
use native.Mathlib.Omega.{arith}
use native.Mathlib.Decide.{dec_lt}
use lib.Bits.{xor_zero_r}
use lib.ListN.{length, get_or, take, drop, set, length-set, replicate, length-append, length-drop, length-replicate, take-append-drop, get_or-append, get_or-eq_default}
use lib.Seq.{get_or-set_same, get_or-set_other, length-take-le, take_all, take_at, drop_at, take-take, get_or-drop, ext_get_or}
use borrow.Rule.Slice.PartMut.{put_mid, mid_of}
use Rattle.list_laws.specs.Filled.{tabulate, length-tabulate, get_or-tabulate}
use Rattle.list_laws.specs.Parts.{put-tail}
use Rattle.finite_field.specs.Xor.{◌⊕◌}
use Rattle.finite_field.specs.Field.{WordSize, Word, product, power}
use Rattle.finite_field.specs.FieldLaws.{product-zero-left, product-comm, power-word}
use Rattle.block_code.specs.Block.{Words}
use Rattle.block_code.specs.WordLists.{words-first, words_append}
use Rattle.block_code.specs.CheckWords.{generator, factor, divide_step, remainder, check_words_of, with_check_words}
use Rattle.block_code.specs.CheckWordsLaws.{length-remainder, remainder-words, remainder-next, replicate-words}

tabulate-alike : (f g : ℕ → ℕ) (n : ℕ) → ((i : ℕ) → i < n → f i ≡ g i) → tabulate f n ≡ tabulate g n
unfolding tabulate
tabulate-alike f g zero h = refl
tabulate-alike f g (suc n) h =
    ap₂ (λ t a. t ++ a ∷ []) (tabulate-alike f g n (λ i l. h i (omega arith))) (h n (omega arith))

-- place i of l, moved up
abbrev pub moving : List ℕ → ℕ → ℕ
moving l i = get_or l (i + 1) 0

-- b is l moved up, and 0 comes in at the end
pub moved-up : (l b : List ℕ) → length b ≡ length l → 0 < length l
    → ((i : ℕ) → i < length l - 1 → get_or b i 0 ≡ moving l i) → set b (length l - 1) 0 ≡ tabulate (moving l) (length l)
moved-up l b size pos h =
    ext_get_or 0 (set b last 0) (tabulate (moving l) (length l))
    (length-set b last 0 ∙ size ∙ sym (length-tabulate (moving l) (length l)))
    (λ i k.
    let below : i < length l = rw (length-set, size) at k in
    at i below (dec_lt i last) ∙ sym (get_or-tabulate (moving l) 0 (length l) i below))
  where
    last : ℕ
    last = length l - 1

    at : (i : ℕ) → i < length l → Dec (i < last) → get_or (set b last 0) i 0 ≡ moving l i
    at i below (yes k) = get_or-set_other b last i 0 0 (omega arith) ∙ h i k
    at i below (no k) =
        let here : i ≡ last = omega arith in
        let past : length l ≤ last + 1 = omega arith in
        rw here (get_or-set_same b last 0 0 (omega (arith, size)) ∙ sym (get_or-eq_default l 0 {n = last + 1} past))

module _ (s : WordSize) where
  -- place i of l, with 2^k times g added
  abbrev pub adding : List ℕ → ℕ → List ℕ → ℕ → ℕ
  adding g k l i = get_or l i 0 ⊕ product s (get_or g i 0) (power s k)

  -- the step, from the remainder r that is moved up, t

  module _ (g r : List ℕ) (w : ℕ) {t : List ℕ} (size : length r ≡ length g) (moved : t ≡ tabulate (moving r) (length r)) where
    -- where 0 leaves
    pub step-of-zero : factor r w ≡ 0 → t ≡ divide_step s g r w
    unfolding divide_step
    step-of-zero e =
        moved
        ∙ ap (tabulate (moving r)) size
        ∙ tabulate-alike (moving r) _ (length g)
        (λ i h.
        sym
        (ap (λ f. moving r i ⊕ product s f (get_or g i 0)) e
        ∙ ap (λ z. moving r i ⊕ z) (product-zero-left s (get_or g i 0))
        ∙ xor_zero_r (moving r i)))

    -- where 2^k leaves
    pub step-of-power : (k : ℕ) {u : List ℕ} → Words s g → power s k ≡ factor r w → u ≡ tabulate (adding g k t) (length t)
        → u ≡ divide_step s g r w
    unfolding divide_step
    step-of-power k words e added =
        added
        ∙ ap (tabulate (adding g k t)) (ap length moved ∙ length-tabulate (moving r) (length r) ∙ size)
        ∙ tabulate-alike (adding g k t) _ (length g)
        (λ i h.
        ap₂ ◌⊕◌
        (ap (λ z. get_or z i 0) moved ∙ get_or-tabulate (moving r) 0 (length r) i (omega arith))
        (product-comm s (get_or g i 0) (power s k) (words i) (power-word s k) ∙ ap (λ f. product s f (get_or g i 0)) e))

words_take : (s : WordSize) (n : ℕ) (l : List ℕ) → Words s l → Words s (take n l)
words_take s n l h = words-first s (take n l) (drop n l) (rw take-append-drop h)

-- the block l after the division of its first i words, of which d are data words
module _ (s : WordSize) (g : List ℕ) (d : ℕ) (l : List ℕ) where
  abbrev pub dividing : ℕ → List ℕ
  dividing i = take d l ++ remainder s g (drop d l) (take i (take d l))

  pub dividing-none : l ≡ dividing 0
  unfolding remainder
  dividing-none = sym (take-append-drop d l)

  -- what one turn needs of the block b, and what it leaves
  pub record Turn (i : ℕ) (b : List ℕ) : Type 0 where
    pub word : Word s (get_or b i 0)
    pub words : Words s (mid_of d (length b - d) b)
    pub size : length (mid_of d (length b - d) b) ≡ length g
    pub next : {r : List ℕ} → r ≡ divide_step s g (mid_of d (length b - d) b) (get_or b i 0)
        → put_mid d (length b - d) b r ≡ dividing (i + 1)

  pub dividing-turn : Words s g → Words s l → d < length l → length g ≡ length l - d → (i : ℕ) {b : List ℕ} → i < d → b ≡ dividing i
      → Turn i b
  dividing-turn gw lw fits g-size i {b} h e = record {
    word = rw here (data-words i);
    words = rw tail-is-left (remainder-words s (length l - d) g g-size gw (drop d l) (take i (take d l)) tail-words (words_take s i (take d l) data-words));
    size = ap length tail-is-left ∙ left-length ∙ sym g-size;
    next = λ {r} f.
        put-tail d b r
        ∙ ap₂ ◌++◌
        (ap (take d) e ∙ take_at (take d l) left d data-length)
        (f
        ∙ ap₂ (divide_step s g) tail-is-left here
        ∙ sym (remainder-next s g (drop d l) (take d l) i (omega (arith, data-length))));
  }
    where
      data-length : length (take d l) ≡ d
      data-length = length-take-le d l (omega arith)

      data-words : Words s (take d l)
      data-words = words_take s d l lw

      tail-words : Words s (drop d l)
      tail-words j = rw get_or-drop (lw (d + j))

      left : List ℕ
      left = remainder s g (drop d l) (take i (take d l))

      left-length : length left ≡ length l - d
      left-length = length-remainder s (length l - d) g g-size gw (drop d l) (take i (take d l)) (length-drop d l)

      tail-is-left : mid_of d (length b - d) b ≡ left
      tail-is-left =
          let tail : drop d b ≡ left = ap (drop d) e ∙ drop_at (take d l) left d data-length in
          ap (take (length b - d)) tail ∙ take_all (length b - d) left (omega (arith, length-drop d b, ap length tail))

      here : get_or b i 0 ≡ get_or (take d l) i 0
      here = ap (λ z. get_or z i 0) e ∙ get_or-append (take d l) left 0 i (omega (arith, data-length))

  pub dividing-all : dividing d ≡ take d l ++ remainder s g (drop d l) (take d l)
  dividing-all = ap (λ z. take d l ++ remainder s g (drop d l) z) (take-take d d l (le_refl d))

-- the division from a cleared tail
module _ (s : WordSize) (d : ℕ) (l : List ℕ) (fits : d < length l) {b : List ℕ} (e : b ≡ take d l ++ replicate (length l - d) 0) where
  pub cleared-length : length b ≡ length l
  cleared-length =
      ap length e ∙ simp (length-append, length-replicate, length-take-le d l (omega arith)) (omega arith)

  pub cleared-words : Words s (take d l) → Words s b
  cleared-words h = rw e (words_append s (take d l) (replicate (length l - d) 0) h (replicate-words s (length l - d)))

  pub check-words-left : {g c : List ℕ} → g ≡ generator s (length l - d) → c ≡ take d b ++ remainder s g (drop d b) (take d b)
      → c ≡ with_check_words s d l
  unfolding check_words_of
  check-words-left {g} ge f =
      let size : length (take d l) ≡ d = length-take-le d l (omega arith) in
      let front : take d b ≡ take d l = ap (take d) e ∙ take_at (take d l) (replicate (length l - d) 0) d size in
      let tail : drop d b ≡ replicate (length l - d) 0 = ap (drop d) e ∙ drop_at (take d l) (replicate (length l - d) 0) d size in
      f ∙ rw (front, tail, ge)
