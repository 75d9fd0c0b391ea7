-- Blocks of words seen in the field: a block's value at a power of x is a power sum of its entries, so a valid block is one in algebra's
-- sense, and a block near to the words read is near in the field. Algebra's theory then speaks of lists.
-- Assumes nothing.
use Rattle.std.specs.Prelude.{◌≡◌, refl, ◌↔◌, Bool, true, false, not, cond, ◌&&◌, ℕ, suc, ◌+◌, T, eqb, length, get_or}
use Rattle.std.proofs.Common.{sym, ◌∙◌, subst, add-one, arith, eqb→eq, pow_pos}
use Rattle.std.proofs.Math.Path.{ap}
use mathlib.Core.List.{List, [], ◌∷◌}
use Rattle.std.proofs.Math.Dec.{eqb_refl}
use Rattle.std.proofs.lemmas.Nat.{xor_lt}
use Rattle.list_laws.specs.Range.{count, count_same}
use Rattle.algebra.specs.Field.{is_zero, is_zero→zero, zero→is_zero, equal-of-zero, zero-of-equal}
use Rattle.algebra.specs.Sums.{pow}
use Rattle.algebra.specs.Vandermonde.{power_sum}
use Rattle.algebra.specs.Horner.{horner, horner-power-sum}
use Rattle.algebra.specs.Distance as distance
use Rattle.finite_field.specs.Xor.{◌⊕◌}
use Rattle.finite_field.specs.Field.{WordSize, bits, Word, product, power}
use Rattle.finite_field.specs.FieldLaws.{product-word, power-word}
use Rattle.finite_field.specs.Instance.{
  word_field,
  word,
  entry,
  x,
  word-zero,
  word-xor,
  word-product,
  word-power,
  word-injective,
  word-is-zero,
}
use Rattle.block_code.specs.Block.{Words, value_from, value, Valid}
use Rattle.block_code.specs.Nearest.{marked, unread, differ, Near}
use Rattle.block_code.specs.Polynomials.{horner-none, horner-step, from_zero}
use Rattle.correction.specs.Steps.{Readable, place, read_word}

-- two tests that pass together are the same
same_test : (a b : Bool) → (T a → T b) → (T b → T a) → a ≡ b
same_test true true f g = refl
same_test true false f g = absurd (f tt)
same_test false true f g = absurd (g tt)
same_test false false f g = refl

module _ (s : WordSize) where
  step-word : (a : ℕ) {v w : ℕ} → Word s v → Word s w → Word s (product s v a ⊕ w)
  step-word a {v} {w} hv hw = xor_lt (bits s) (product s v a) w (product-word s v a hv) hw

  value-from-word : (a v : ℕ) (block : List ℕ) → Word s v → Words s block → Word s (value_from s a v block)
  unfolding value_from
  value-from-word a v [] hv h = hv
  value-from-word a v (w ∷ block) hv h = value-from-word a (product s v a ⊕ w) block (step-word a hv (h 0)) (λ i. h (suc i))

  pub value-word : (block : List ℕ) (a : ℕ) → Words s block → Word s (value s block a)
  value-word block a h = value-from-word a 0 block (pow_pos (bits s)) h

  pub value-from-horner : (a v : ℕ) (block : List ℕ) → Word s a → Word s v → Words s block
      → word s (value_from s a v block)
      ≡ (word_field s).add ((word_field s).mul (word s v) (pow (word_field s) (word s a) (length block)))
      (horner (word_field s) (length block) (entry s block) (word s a))
  unfolding value_from
  value-from-horner a v [] ha hv h = horner-none (word_field s) (word s v) (word s a) (entry s [])
  value-from-horner a v (w ∷ block) ha hv h =
      value-from-horner a (product s v a ⊕ w) block ha (step-word a hv (h 0)) (λ i. h (suc i))
      ∙ ap
      (λ y.
      (word_field s).add ((word_field s).mul y (pow (word_field s) (word s a) (length block)))
      (horner (word_field s) (length block) (entry s block) (word s a)))
      (word-xor s (product-word s v a hv) (h 0) ∙ ap (λ y. (word_field s).add y (word s w)) (word-product s hv ha))
      ∙ horner-step (word_field s) (length block) (word s v) (word s a) (entry s (w ∷ block))

  pub value-horner : (a : ℕ) (block : List ℕ) → Word s a → Words s block
      → word s (value s block a) ≡ horner (word_field s) (length block) (entry s block) (word s a)
  value-horner a block ha h =
      value-from-horner a 0 block ha (pow_pos (bits s)) h
      ∙ ap
      (λ y.
      (word_field s).add ((word_field s).mul y (pow (word_field s) (word s a) (length block)))
      (horner (word_field s) (length block) (entry s block) (word s a)))
      (word-zero s)
      ∙ from_zero (word_field s) _ _

  pub value-sum : (block : List ℕ) (j : ℕ) → Words s block
      → word s (value s block (power s j)) ≡ power_sum (word_field s) (length block) (place s (length block)) (entry s block) j
  value-sum block j h =
      value-horner (power s j) block (power-word s j) h
      ∙ ap (horner (word_field s) (length block) (entry s block)) (word-power s j)
      ∙ horner-power-sum (word_field s) (x s) (length block) (entry s block) j

  pub valid-view : (check n : ℕ) (block : List ℕ) → length block ≡ n
      → Valid s check block ↔ (Words s block × distance.Valid (word_field s) n (place s n) check (entry s block))
  valid-view check n block e =
      subst (λ m. Valid s check block ↔ (Words s block × distance.Valid (word_field s) m (place s m) check (entry s block))) e (
        λ v. (v.words, λ j l. sym (sum-at j v.words) ∙ ap (word s) (v.zeros j l) ∙ word-zero s),
        λ v. record {
          words = v.0;
          zeros = λ j l. word-is-zero s (value-word block (power s (j + 1)) v.0) (sum-at j v.0 ∙ v.1 j l);
        },
      )
    where
      sum-at : (j : ℕ) → Words s block
          → word s (value s block (power s (j + 1)))
          ≡ power_sum (word_field s) (length block) (place s (length block)) (entry s block) (suc j)
      sum-at j h = ap (λ k. word s (value s block (power s k))) (add-one j) ∙ value-sum block (suc j) h

  -- two words are the same where their sum is zero
  same_word : {a b : ℕ} → Word s a → Word s b → eqb a b ≡ is_zero (word_field s) ((word_field s).add (word s a) (word s b))
  same_word {a} {b} ha hb =
      same_test (eqb a b) (is_zero (word_field s) ((word_field s).add (word s a) (word s b)))
      (λ t. zero→is_zero (word_field s) _ (zero-of-equal (word_field s) (ap (word s) (eqb→eq a b t))))
      (λ t.
      rw (word-injective s ha hb (equal-of-zero (word_field s) (word s a) (word s b) (is_zero→zero (word_field s) _ t))) (eqb_refl b))

  wrong_word : (mark : Bool) {a b : ℕ} → (T (not mark) → Word s b) → Word s a
      → (not mark && not (eqb a b))
      ≡ distance.wrong (word_field s) mark (cond mark (word_field s).zer (word s b)) (word s a)
  wrong_word true hb ha = refl
  wrong_word false hb ha = ap not (same_word ha (hb tt))

  module _ (check limit n : ℕ) (received marks : List ℕ) (received-length : length received ≡ n) (marks-length : length marks ≡ n)
      (readable : Readable s received marks) where
    pub differ-view : (block : List ℕ) → Words s block
        → differ received marks block
        ≡ distance.errors (word_field s) n (marked marks) (read_word s received marks) (entry s block)
    differ-view block h =
        ap (λ m. count m (λ i. not (marked marks i) && not (eqb (get_or block i 0) (get_or received i 0)))) received-length
        ∙ count_same n _ _ (λ i l. wrong_word (marked marks i) (readable i) (h i))

    pub unread-view : unread marks ≡ distance.erasures (word_field s) n (marked marks)
    unread-view = ap (λ m. count m (marked marks)) marks-length

    pub near-field : (block : List ℕ) → Near s check limit received marks block
        → distance.Near (word_field s) n check limit (place s n) (marked marks) (read_word s received marks) (entry s block)
    near-field block near = record {
      valid = ((valid-view check n block (near.size ∙ received-length)).0 near.valid).1;
      within = omega (arith, near.within, differ-view block near.valid.words, unread-view);
    }

    pub field-near : (block : List ℕ) → length block ≡ n → Words s block
        → distance.Near (word_field s) n check limit (place s n) (marked marks) (read_word s received marks) (entry s block)
        → Near s check limit received marks block
    field-near block e h near = record {
      size = e ∙ sym received-length;
      valid = (valid-view check n block e).1 (h, near.valid);
      within = omega (arith, near.within, differ-view block h, unread-view);
    }
