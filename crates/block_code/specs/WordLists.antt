-- Lists of words: made place by place, put together and taken apart. Past its end a list's entries are 0, a word like any other.
-- Assumes nothing.
use Rattle.std.specs.Prelude.{◌≡◌, refl, List, ◌∷◌, ◌++◌, ℕ, zero, suc, ◌+◌, ◌-◌, ◌<◌, length, get_or}
use Rattle.std.proofs.Common.{sym, ap, ◌∙◌, arith, pow_pos, get_or-append-add}
use Rattle.std.proofs.Math.Decide.{dec_lt}
use Rattle.std.proofs.Math.ListN.{get_or-append, get_or-eq_default}
use Rattle.list_laws.specs.Filled.{tabulate, length-tabulate, get_or-tabulate}
use Rattle.finite_field.specs.Field.{WordSize, bits, Word}
use Rattle.finite_field.specs.Instance.{word_field, word, entry, word-zero}
use Rattle.block_code.specs.Block.{Words}

module _ (s : WordSize) where
  -- entries below the bound are words, those past the end too
  pub words-below : (l : List ℕ) (n : ℕ) → length l ≡ n → ((i : ℕ) → i < n → Word s (get_or l i 0)) → Words s l
  words-below l n e h i = go (dec_lt i n)
    where
      go : Dec (i < n) → Word s (get_or l i 0)
      go (yes k) = h i k
      go (no k) = rw (get_or-eq_default l 0 {n = i} (omega arith)) (pow_pos (bits s))

  pub words-tabulate : (f : ℕ → ℕ) (n : ℕ) → ((i : ℕ) → Word s (f i)) → Words s (tabulate f n)
  words-tabulate f n h =
      words-below (tabulate f n) n (length-tabulate f n) (λ i l. rw (get_or-tabulate f 0 n i l) (h i))

  pub words-cons : (w : ℕ) (l : List ℕ) → Word s w → Words s l → Words s (w ∷ l)
  words-cons w l hw h zero = hw
  words-cons w l hw h (suc i) = h i

  pub words_append : (a b : List ℕ) → Words s a → Words s b → Words s (a ++ b)
  words_append a b ha hb i = go (dec_lt i (length a))
    where
      go : Dec (i < length a) → Word s (get_or (a ++ b) i 0)
      go (yes l) = rw (get_or-append a b 0 i l) (ha i)
      go (no l) =
          let e : length a + (i - length a) ≡ i = omega arith in
          rw (← e, get_or-append-add a b (i - length a) 0) (hb (i - length a))

  pub words-first : (a b : List ℕ) → Words s (a ++ b) → Words s a
  words-first a b h = words-below a (length a) refl (λ i l. rw (sym (get_or-append a b 0 i l)) (h i))

  pub past_end : (l : List ℕ) (n : ℕ) → length l ≡ n → entry s l n ≡ (word_field s).zer
  past_end l n e = ap (word s) (get_or-eq_default l 0 {n = n} (omega arith)) ∙ word-zero s
