-- The check words make the block valid, and no other words do. Each step of the division takes off a multiple of the generator, which
-- vanishes at 2^1 to 2^K: there the remainder has the value of the data polynomial times x^K, and the two cancel.
-- Assumes nothing.
use Rattle.std.specs.Prelude.{◌≡◌, Bool, not, T, length, get_or, take, replicate}
use Rattle.std.proofs.Math.Path.{refl, sym, ap, ap₂}
use Rattle.std.proofs.Common.{◌∙◌, zero-add, suc-add, zero-lt-suc, not-suc-le-zero, arith, length-append, take-suc, get_or-append-add, ext_get_or}
use mathlib.Core.List.{List, [], ◌∷◌, ◌++◌}
use Prim.Native.Nat.{ℕ, zero, suc, ◌+◌, ◌^◌, ◌≤◌, ◌<◌, suc-le-suc}
use Rattle.std.proofs.Math.Numerals.{add-one}
use Rattle.std.proofs.Math.Dec.{not_T}
use Rattle.std.proofs.Math.Pow.{pow_pos}
use Rattle.std.specs.Int.Bits.{xor_lt}
use Rattle.std.proofs.lemmas.List.{length-replicate}
use Rattle.std.proofs.Math.ListN.{get_or-append}
use Rattle.list_laws.specs.Range.{count, count-first, count_most, one-no, up_to}
use Rattle.list_laws.specs.Filled.{length-tabulate, get_or-tabulate}
use Rattle.algebra.specs.Field.{Field, ⊗-comm, ⊗-left-zero, ⊗-right-zero, zero-of-equal, nonzero, differ→ne}
use Rattle.algebra.specs.Sums.{pow}
use Rattle.algebra.specs.Horner.{horner}
use Rattle.algebra.specs.Distance as distance
use Rattle.finite_field.specs.Xor.{◌⊕◌}
use Rattle.finite_field.specs.Field.{WordSize, bits, Word, product, power}
use Rattle.finite_field.specs.FieldLaws.{one_word, product-word, power-word}
use Rattle.finite_field.specs.Instance.{
  word_field,
  word,
  entry,
  word-zero,
  word-one,
  word-xor,
  word-product,
  word-injective,
  word-is-zero,
}
use Rattle.block_code.specs.Block.{Words, value_from, value, Valid}
use Rattle.correction.specs.Steps.{place}
use Rattle.block_code.specs.WordLists.{words-tabulate, words-cons, words_append, words-first, past_end}
use Rattle.block_code.specs.Polynomials.{horner-zero, root-value, step_value, carry}
use Rattle.block_code.specs.FieldView.{value-word, value-horner, value-from-horner, valid-view}
use Rattle.block_code.specs.NearestLaws.{places-distinct, places-nonzero}
use Rattle.block_code.specs.CheckWords.{times_root, generator, factor, divide_step, remainder, check_words_of}

-- tests that fail at the first d numbers pass at k at most
count-rest : (d k : ℕ) (p : ℕ → Bool) → ((i : ℕ) → i < d → T (not (p i))) → count (d + k) p ≤ k
count-rest zero k p h = rw zero-add (count_most k p)
count-rest (suc d) k p h =
    rw suc-add
    (omega (
      arith,
      count-first (d + k) p,
      one-no (p 0) (h 0 (zero-lt-suc d)),
      count-rest d k (λ i. p (suc i)) (λ i l. h (suc i) (suc-le-suc l)),
    ))

module _ (s : WordSize) where
  abbrev F : Field
  F = word_field s

  -- the generator

  pub length-generator : (check : ℕ) → length (generator s check) ≡ check
  unfolding generator times_root
  length-generator zero = refl
  length-generator (suc k) = length-tabulate _ _ ∙ ap (λ n. n + 1) (length-generator k) ∙ add-one k

  times-root-words : (c : ℕ) (g : List ℕ) → Words s g → Words s (times_root s c g)
  unfolding times_root
  times-root-words c g h =
      words-tabulate s _ _
      (λ i. xor_lt (bits s) (get_or g i 0) _ (h i) (product-word s (get_or (1 ∷ g) i 0) c (words-cons s 1 g (one_word s) h i)))

  pub generator-words : (check : ℕ) → Words s (generator s check)
  unfolding generator
  generator-words zero = λ i. pow_pos (bits s)
  generator-words (suc k) = times-root-words (power s (k + 1)) (generator s k) (generator-words k)

  times-root-value : (n c : ℕ) (g : List ℕ) (a : F.C) → length g ≡ n → Word s c → Words s g
      → horner F (suc (suc n)) (entry s (1 ∷ times_root s c g)) a
      ≡ F.mul (F.add a (word s c)) (horner F (suc n) (entry s (1 ∷ g)) a)
  unfolding times_root
  times-root-value n c g a e hc h =
      root-value F n (entry s (1 ∷ g)) (entry s (1 ∷ times_root s c g)) (word s c) a refl (past_end s g n e)
      (λ i l.
      ap (word s) (get_or-tabulate _ 0 (length g + 1) i (omega arith))
      ∙ word-xor s (h i) (product-word s (get_or (1 ∷ g) i 0) c (words-cons s 1 g (one_word s) h i))
      ∙ ap (F.add (entry s g i)) (word-product s (words-cons s 1 g (one_word s) h i) hc ∙ ⊗-comm F _ _))

  generator-vanishes : (check j : ℕ) → j < check
      → horner F (suc check) (entry s (1 ∷ generator s check)) (word s (power s (j + 1))) ≡ F.zer
  unfolding generator
  generator-vanishes zero j l = absurd (not-suc-le-zero l)
  generator-vanishes (suc k) j l =
      times-root-value k (power s (k + 1)) (generator s k) (word s (power s (j + 1))) (length-generator k) (power-word s (k + 1))
      (generator-words k)
      ∙ up_to
      (λ i.
      F.mul (F.add (word s (power s (i + 1))) (word s (power s (k + 1))))
      (horner F (suc k) (entry s (1 ∷ generator s k)) (word s (power s (i + 1))))
      ≡ F.zer)
      k (λ i m. ⊗-right-zero F _ (generator-vanishes k i m)) (⊗-left-zero F _ (F.add-self _)) j l

  -- the generator's roots
  pub generator-root : (check j : ℕ) → j < check → value s (1 ∷ generator s check) (power s (j + 1)) ≡ 0
  generator-root check j l =
      let words = words-cons s 1 (generator s check) (one_word s) (generator-words check) in
      word-is-zero s (value-word s (1 ∷ generator s check) (power s (j + 1)) words)
      (value-horner s (power s (j + 1)) (1 ∷ generator s check) (power-word s (j + 1)) words
      ∙ ap (λ n. horner F (suc n) (entry s (1 ∷ generator s check)) (word s (power s (j + 1)))) (length-generator check)
      ∙ generator-vanishes check j l)

  -- the division, by any g of n words

  module _ (n : ℕ) (g : List ℕ) (g-length : length g ≡ n) (g-words : Words s g) where
    length-step : (r : List ℕ) (w : ℕ) → length (divide_step s g r w) ≡ n
    unfolding divide_step
    length-step r w = length-tabulate _ _ ∙ g-length

    factor-word : (r : List ℕ) (w : ℕ) → Words s r → Word s w → Word s (factor r w)
    factor-word r w hr hw = xor_lt (bits s) w (get_or r 0 0) hw (hr 0)

    step_words : (r : List ℕ) (w : ℕ) → Words s r → Word s w → Words s (divide_step s g r w)
    unfolding divide_step
    step_words r w hr hw =
        words-tabulate s _ _
        (λ i. xor_lt (bits s) (get_or r (i + 1) 0) _ (hr (i + 1)) (product-word s (factor r w) (get_or g i 0) (factor-word r w hr hw)))

    pub length-remainder : (r ws : List ℕ) → length r ≡ n → length (remainder s g r ws) ≡ n
    unfolding remainder
    length-remainder r [] e = e
    length-remainder r (w ∷ ws) e = length-remainder (divide_step s g r w) ws (length-step r w)

    pub remainder-words : (r ws : List ℕ) → Words s r → Words s ws → Words s (remainder s g r ws)
    unfolding remainder
    remainder-words r [] hr h = hr
    remainder-words r (w ∷ ws) hr h = remainder-words (divide_step s g r w) ws (step_words r w hr (h 0)) (λ i. h (suc i))

    -- where g with its leading 1 vanishes
    module _ (a : ℕ) (a_word : Word s a) (vanishes : horner F (suc n) (entry s (1 ∷ g)) (word s a) ≡ F.zer) where
      divided-value : (r : List ℕ) (w : ℕ) → length r ≡ n → Words s r → Word s w
          → horner F n (entry s (divide_step s g r w)) (word s a)
          ≡ F.add (F.mul (horner F n (entry s r) (word s a)) (word s a)) (F.mul (word s w) (pow F (word s a) n))
      unfolding divide_step
      divided-value r w e hr hw =
          step_value F n (entry s (1 ∷ g)) (entry s r) (entry s (divide_step s g r w)) (word s w) (word s a) (word-one s) vanishes
          (past_end s r n e)
          (λ i l.
          ap (word s) (get_or-tabulate _ 0 (length g) i (rw g-length l))
          ∙ word-xor s (hr (i + 1)) (product-word s (factor r w) (get_or g i 0) (factor-word r w hr hw))
          ∙ ap₂ F.add (ap (λ k. entry s r k) (add-one i))
          (word-product s (factor-word r w hr hw) (g-words i) ∙ ap (λ y. F.mul y (entry s g i)) (word-xor s hw (hr 0))))

      -- v: the value of the words before, whose remainder is r
      remainder-cancels : (v : ℕ) (r ws : List ℕ) → Word s v → length r ≡ n → Words s r → Words s ws
          → F.mul (word s v) (pow F (word s a) n) ≡ horner F n (entry s r) (word s a)
          → word s (value_from s a v (ws ++ remainder s g r ws)) ≡ F.zer
      unfolding remainder value_from
      remainder-cancels v r [] hv e hr h same =
          value-from-horner s a v r a_word hv hr
          ∙ ap (λ m. F.add (F.mul (word s v) (pow F (word s a) m)) (horner F m (entry s r) (word s a))) e
          ∙ zero-of-equal F same
      remainder-cancels v r (w ∷ ws) hv e hr h same =
          remainder-cancels (product s v a ⊕ w) (divide_step s g r w) ws
          (xor_lt (bits s) (product s v a) w (product-word s v a hv) (h 0))
          (length-step r w) (step_words r w hr (h 0)) (λ i. h (suc i))
          (ap (λ y. F.mul y (pow F (word s a) n))
          (word-xor s (product-word s v a hv) (h 0) ∙ ap (λ y. F.add y (word s w)) (word-product s hv a_word))
          ∙ carry F (word s v) (word s w) (word s a) (pow F (word s a) n) (horner F n (entry s r) (word s a)) same
          ∙ sym (divided-value r w e hr (h 0)))

  -- one word more, as a loop takes them
  remainder-snoc : (g r ws : List ℕ) (w : ℕ) → remainder s g r (ws ++ w ∷ []) ≡ divide_step s g (remainder s g r ws) w
  unfolding remainder
  remainder-snoc g r [] w = refl
  remainder-snoc g r (v ∷ ws) w = remainder-snoc g (divide_step s g r v) ws w

  pub remainder-next : (g r ws : List ℕ) (i : ℕ) → i < length ws
      → remainder s g r (take (i + 1) ws) ≡ divide_step s g (remainder s g r (take i ws)) (get_or ws i 0)
  remainder-next g r ws i l =
      ap (λ k. remainder s g r (take k ws)) (add-one i)
      ∙ ap (remainder s g r) (take-suc ws i 0 l)
      ∙ remainder-snoc g r (take i ws) (get_or ws i 0)

  -- the check words

  zero-words : (n i : ℕ) → ◌≡◌ {A = ℕ} (get_or (replicate n 0) i 0) 0
  zero-words zero i = refl
  zero-words (suc n) zero = refl
  zero-words (suc n) (suc i) = zero-words n i

  pub replicate-words : (n : ℕ) → Words s (replicate n 0)
  replicate-words n i = rw (zero-words n i) (pow_pos (bits s))

  pub length-check-words : (check : ℕ) (ws : List ℕ) → length (check_words_of s check ws) ≡ check
  unfolding check_words_of
  length-check-words check ws =
      length-remainder check (generator s check) (length-generator check) (generator-words check) (replicate check 0) ws
      (length-replicate check 0)

  pub check-words-words : (check : ℕ) (ws : List ℕ) → Words s ws → Words s (check_words_of s check ws)
  unfolding check_words_of
  check-words-words check ws h =
      remainder-words check (generator s check) (length-generator check) (generator-words check) (replicate check 0) ws
      (replicate-words check) h

  pub check-words-valid : (check : ℕ) (ws : List ℕ) → Words s ws → Valid s check (ws ++ check_words_of s check ws)
  unfolding check_words_of
  check-words-valid check ws h = record {
    words = words_append s ws (check_words_of s check ws) h (check-words-words check ws h);
    zeros = λ j l.
        word-is-zero s
        (value-word s (ws ++ check_words_of s check ws) (power s (j + 1))
        (words_append s ws (check_words_of s check ws) h (check-words-words check ws h)))
        (remainder-cancels check (generator s check) (length-generator check) (generator-words check) (power s (j + 1))
        (power-word s (j + 1)) (generator-vanishes check j l) 0 (replicate check 0) ws (pow_pos (bits s)) (length-replicate check 0)
        (replicate-words check) h
        (⊗-left-zero F _ (word-zero s)
        ∙ sym (horner-zero F check _ _ (λ i m. ap (word s) (zero-words check i) ∙ word-zero s))));
  }

  -- two valid blocks that are alike up to their last words, as many as there are checks, are alike
  pub check-words-only : (check : ℕ) (ws tail : List ℕ) → length tail ≡ check → length ws + check < 2 ^ bits s
      → Valid s check (ws ++ tail) → tail ≡ check_words_of s check ws
  check-words-only check ws tail e fits valid =
      ext_get_or 0 tail (check_words_of s check ws) (e ∙ sym (length-check-words check ws))
      (λ i l. sym (get_or-append-add ws tail i 0) ∙ same (length ws + i) (omega arith) ∙ get_or-append-add ws (check_words_of s check ws) i 0)
    where
      n : ℕ
      n = length ws + check

      made : List ℕ
      made = ws ++ check_words_of s check ws

      made-valid : Valid s check made
      made-valid = check-words-valid check ws (words-first s ws tail valid.words)

      alike : (i : ℕ) → i < length ws → entry s (ws ++ tail) i ≡ entry s made i
      alike i l = ap (word s) (get_or-append ws tail 0 i l ∙ sym (get_or-append ws (check_words_of s check ws) 0 i l))

      in_field : (l : List ℕ) → length l ≡ check → Valid s check (ws ++ l) → distance.Valid F n (place s n) check (entry s (ws ++ l))
      in_field l h v = ((valid-view s check n (ws ++ l) (length-append ws l ∙ ap (λ k. length ws + k) h)).0 v).1

      same : (i : ℕ) → i < n → get_or (ws ++ tail) i 0 ≡ get_or made i 0
      same i l =
          word-injective s (valid.words i) (made-valid.words i)
          (distance.min-distance F n check (place s n) (places-distinct s n fits) (λ k m. places-nonzero s n k)
          (entry s (ws ++ tail)) (entry s made)
          (in_field tail e valid) (in_field (check_words_of s check ws) (length-check-words check ws) made-valid)
          (count-rest (length ws) check _
          (λ k m. not_T (nonzero F (F.add (entry s (ws ++ tail) k) (entry s made k))) (λ t. differ→ne F _ _ t (alike k m))))
          i l)
