-- The field of each word size as an instance of algebra's record: an element is a number below 2 ^ bits. With it the theory of the
-- corrector, shown once for any field, speaks of words.
-- Assumes nothing.
use Rattle.std.specs.Prelude.{◌≡◌, ◌≢◌, List, get_or}
use Rattle.std.proofs.Math.Path.{refl, ap, ap₂}
use Rattle.std.proofs.Common.{sym, ◌∙◌, mod-lt, suc-ne-zero, one-add, arith, pow_pos}
use mathlib.Core.HLevel.{Σ_prop_path, Σ_prop_discrete}
use Prim.Native.Nat.{ℕ, zero, suc, ◌-◌, ◌%◌, ◌^◌, ◌<◌}
use Rattle.std.proofs.Math.Nat.{mod-eq_of_lt}
use Rattle.std.proofs.Math.Bridge.{le_prop}
use Rattle.std.proofs.Math.Decide.{ℕ_discrete}
use Rattle.std.proofs.lemmas.Nat.{xor_comm, xor_lt}
use Rattle.std.specs.Int.Bits.{xor_zero_r, xor_self}
use Rattle.algebra.specs.Field.{Field}
use Rattle.algebra.specs.Sums.{pow}
use Rattle.finite_field.specs.Xor.{◌⊕◌, xor_assoc}
use Rattle.finite_field.specs.Field.{WordSize, bits, Word, product, power, inverse, shift}
use Rattle.finite_field.specs.FieldLaws.{
  one_word,
  product-word,
  inverse-word,
  power-word,
  product-assoc,
  product-comm,
  product-one,
  product-xor,
  product-inverse,
  power-product,
  power-nonzero,
  power-injective,
}

module _ (s : WordSize) where
  abbrev Element : Type 0
  Element = (a : ℕ) × Word s a

  element-path : {a b : Element} → a.0 ≡ b.0 → a ≡ b
  element-path p = Σ_prop_path (λ n. le_prop) p

  pub word_field : Field
  word_field = record {
    C = Element;
    zer = (0, pow_pos (bits s));
    one = (1, one_word s);
    add = λ a b. (a.0 ⊕ b.0, xor_lt (bits s) a.0 b.0 a.1 b.1);
    mul = λ a b. (product s a.0 b.0, product-word s a.0 b.0 a.1);
    inv = λ a. (inverse s a.0, inverse-word s a.0 a.1);
    dec = Σ_prop_discrete (λ n. le_prop) ℕ_discrete;
    add_assoc = λ a b c. element-path (xor_assoc a.0 b.0 c.0);
    add_comm = λ a b. element-path (xor_comm a.0 b.0);
    add-zero = λ a. element-path (xor_zero_r a.0);
    add-self = λ a. element-path (xor_self a.0);
    mul_assoc = λ a b c. element-path (product-assoc s a.0 b.0 c.0 a.1 b.1 c.1);
    mul_comm = λ a b. element-path (product-comm s a.0 b.0 a.1 b.1);
    mul-one = λ a. element-path (product-one s a.0 a.1);
    mul-add = λ a b c. element-path (product-xor s a.0 b.0 c.0);
    mul-inv = λ a ne. element-path (product-inverse s a.0 (λ e. ne (element-path e)) a.1);
    one-ne = λ e. suc-ne-zero 0 (ap (λ (x : Element). x.0) e);
  }

  -- a word as an element, and back

  pub number : word_field.C → ℕ
  unfolding word_field
  number a = a.0

  pub element : (a : ℕ) → Word s a → word_field.C
  unfolding word_field
  element a h = (a, h)

  pub number_word : (a : word_field.C) → Word s (number a)
  unfolding word_field number
  number_word a = a.1

  pub number-element : (a : ℕ) (h : Word s a) → number (element a h) ≡ a
  unfolding word_field number element
  number-element a h = refl

  pub number-injective : {a b : word_field.C} → number a ≡ number b → a ≡ b
  unfolding word_field number
  number-injective e = element-path e

  -- what the field's operations are on words

  pub number-zero : number word_field.zer ≡ 0
  unfolding word_field number
  number-zero = refl

  pub number-one : number word_field.one ≡ 1
  unfolding word_field number
  number-one = refl

  pub number-add : (a b : word_field.C) → number (word_field.add a b) ≡ number a ⊕ number b
  unfolding word_field number
  number-add a b = refl

  pub number-mul : (a b : word_field.C) → number (word_field.mul a b) ≡ product s (number a) (number b)
  unfolding word_field number
  number-mul a b = refl

  pub number-inv : (a : word_field.C) → number (word_field.inv a) ≡ inverse s (number a)
  unfolding word_field number
  number-inv a = refl

  pub zero-of-number : {a : word_field.C} → number a ≡ 0 → a ≡ word_field.zer
  zero-of-number e = number-injective (e ∙ sym number-zero)

  -- x, whose powers are all words but 0

  pub x : word_field.C
  x = element (power s 1) (power-word s 1)

  pub number-pow : (n : ℕ) → number (pow word_field x n) ≡ power s n
  unfolding x pow shift
  number-pow zero = number-one
  number-pow (suc n) =
      number-mul x (pow word_field x n)
      ∙ ap₂ (product s) (number-element (power s 1) (power-word s 1)) (number-pow n)
      ∙ power-product s 1 n
      ∙ ap (power s) (one-add n)

  pub powers-distinct : (i j : ℕ) → i < j → j < 2 ^ bits s - 1 → pow word_field x i ≢ pow word_field x j
  powers-distinct i j l k e =
      let same : i ≡ j = power-injective s i j (omega arith) k (sym (number-pow i) ∙ ap number e ∙ number-pow j) in
      omega arith

  pub x-nonzero : x ≢ word_field.zer
  unfolding x
  x-nonzero e = power-nonzero s 1 (sym (number-element (power s 1) (power-word s 1)) ∙ ap number e ∙ number-zero)

  -- a number as an element: a word is itself, any other number is reduced to one
  pub word : ℕ → word_field.C
  word a = element (a % 2 ^ bits s) (mod-lt a (pow_pos (bits s)))

  -- the entries of a list, as elements; 0 past its end
  abbrev pub entry : List ℕ → ℕ → word_field.C
  entry l i = word (get_or l i 0)

  pub number-of-word : (a : ℕ) → Word s a → number (word a) ≡ a
  unfolding word
  number-of-word a h = number-element _ _ ∙ mod-eq_of_lt h

  pub word-of-number : (a : word_field.C) → word (number a) ≡ a
  word-of-number a = number-injective (number-of-word (number a) (number_word a))

  pub word-injective : {a b : ℕ} → Word s a → Word s b → word a ≡ word b → a ≡ b
  word-injective {a} {b} ha hb e = sym (number-of-word a ha) ∙ ap number e ∙ number-of-word b hb

  pub word-zero : word 0 ≡ word_field.zer
  word-zero = zero-of-number (number-of-word 0 (pow_pos (bits s)))

  pub word-one : word 1 ≡ word_field.one
  word-one = number-injective (number-of-word 1 (one_word s) ∙ sym number-one)

  pub word-xor : {a b : ℕ} → Word s a → Word s b → word (a ⊕ b) ≡ word_field.add (word a) (word b)
  word-xor {a} {b} ha hb =
      number-injective
      (number-of-word (a ⊕ b) (xor_lt (bits s) a b ha hb)
      ∙ sym (number-add (word a) (word b) ∙ ap₂ ◌⊕◌ (number-of-word a ha) (number-of-word b hb)))

  pub word-product : {a b : ℕ} → Word s a → Word s b → word (product s a b) ≡ word_field.mul (word a) (word b)
  word-product {a} {b} ha hb =
      number-injective
      (number-of-word (product s a b) (product-word s a b ha)
      ∙ sym (number-mul (word a) (word b) ∙ ap₂ (product s) (number-of-word a ha) (number-of-word b hb)))

  pub word-inverse : {a : ℕ} → Word s a → word (inverse s a) ≡ word_field.inv (word a)
  word-inverse {a} ha =
      number-injective
      (number-of-word (inverse s a) (inverse-word s a ha) ∙ sym (number-inv (word a) ∙ ap (inverse s) (number-of-word a ha)))

  pub word-power : (k : ℕ) → word (power s k) ≡ pow word_field x k
  word-power k = number-injective (number-of-word (power s k) (power-word s k) ∙ sym (number-pow k))

  pub word-times-power : {a : ℕ} (k : ℕ) → Word s a → word (product s a (power s k)) ≡ word_field.mul (word a) (pow word_field x k)
  word-times-power {a} k ha = word-product ha (power-word s k) ∙ ap (word_field.mul (word a)) (word-power k)

  -- a word is 0 where its element is
  pub word-is-zero : {a : ℕ} → Word s a → word a ≡ word_field.zer → a ≡ 0
  word-is-zero ha e = word-injective ha (pow_pos (bits s)) (e ∙ sym word-zero)
