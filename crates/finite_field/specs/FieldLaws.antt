-- The laws of the five fields, by the size of a word: what a user of products, powers and inverses cites.
-- Assumes nothing.
use Rattle.std.specs.Prelude.{◌≡◌, ◌≢◌}
use Rattle.std.proofs.Common.{sym, ◌∙◌, div-add-mod', arith, lit≤}
use Rattle.std.proofs.Math.Path.{ap}
use Prim.Native.Nat.{ℕ, suc, ◌+◌, ◌-◌, ◌*◌, ◌/◌, ◌%◌, ◌^◌, ◌≤◌, ◌<◌}
use Rattle.finite_field.specs.Xor.{◌⊕◌}
use Rattle.finite_field.specs.Field.{WordSize, w4, w6, w8, w10, w12, bits, poly, Word, product, power, inverse, raise}
use Rattle.finite_field.specs.ProductLaws as laws
use Rattle.finite_field.specs.Generator as generator
use Rattle.finite_field.specs.Tables.{generated}

-- there are 16 words at least, and 4,096 at most
pub least-words : (s : WordSize) → 16 ≤ 2 ^ bits s
least-words w4 = lit≤ tt
least-words w6 = lit≤ tt
least-words w8 = lit≤ tt
least-words w10 = lit≤ tt
least-words w12 = lit≤ tt

pub most-words : (s : WordSize) → 2 ^ bits s ≤ 4096
most-words w4 = lit≤ tt
most-words w6 = lit≤ tt
most-words w8 = lit≤ tt
most-words w10 = lit≤ tt
most-words w12 = lit≤ tt

module _ (s : WordSize) where
  pub one_word : Word s 1
  one_word = (generated s).one-lt

  pub product-word : (a c : ℕ) → Word s a → Word s (product s a c)
  product-word = generator.product_lt (bits s) (poly s) (generated s)

  pub power-word : (k : ℕ) → Word s (power s k)
  power-word = generator.power-lt (bits s) (poly s) (generated s)

  pub inverse-word : (a : ℕ) → Word s a → Word s (inverse s a)
  inverse-word a h = generator.raise-lt (bits s) (poly s) (generated s) a (2 ^ bits s - 2) h

  pub product-zero-left : (c : ℕ) → product s 0 c ≡ 0
  product-zero-left = laws.times-zero-left (bits s) (poly s) (bits s)

  pub product-zero-right : (a : ℕ) → product s a 0 ≡ 0
  product-zero-right = laws.times-zero-right (bits s) (poly s) (bits s)

  pub product-one : (a : ℕ) → Word s a → product s a 1 ≡ a
  product-one a h = generator.product-comm (bits s) (poly s) (generated s) a 1 h one_word ∙ laws.times-one (bits s) (poly s) a h

  pub product-xor : (a c d : ℕ) → product s a (c ⊕ d) ≡ product s a c ⊕ product s a d
  product-xor = laws.times-xor-right (bits s) (poly s) (bits s)

  pub product-comm : (a c : ℕ) → Word s a → Word s c → product s a c ≡ product s c a
  product-comm = generator.product-comm (bits s) (poly s) (generated s)

  pub product-assoc : (a c d : ℕ) → Word s a → Word s c → Word s d → product s (product s a c) d ≡ product s a (product s c d)
  product-assoc = generator.product-assoc (bits s) (poly s) (generated s)

  pub product-inverse : (a : ℕ) → a ≢ 0 → Word s a → product s a (inverse s a) ≡ 1
  product-inverse a ne h = generator.product-raise (bits s) (poly s) (generated s) a (generator.positive a ne) h

  pub power-product : (i j : ℕ) → product s (power s i) (power s j) ≡ power s (i + j)
  power-product = generator.power-product (bits s) (poly s) (generated s)

  pub power-nonzero : (k : ℕ) → power s k ≢ 0
  power-nonzero = generator.power-nonzero (bits s) (poly s) (generated s)

  pub power-injective : (i j : ℕ) → i < 2 ^ bits s - 1 → j < 2 ^ bits s - 1 → power s i ≡ power s j → i ≡ j
  power-injective = generator.power-injective (bits s) (poly s) (generated s)

  -- x ^ k goes round with the order of x
  pub power-turn : (k : ℕ) → power s (k + (2 ^ bits s - 1)) ≡ power s k
  power-turn = generator.power-turn (bits s) (poly s) (generated s)

  pub power-order : power s (2 ^ bits s - 1) ≡ 1
  power-order = (generated s).order

  pub power-mod : (k : ℕ) → power s (k % (2 ^ bits s - 1)) ≡ power s k
  power-mod k =
      sym
      (ap (power s) (sym (div-add-mod' k (2 ^ bits s - 1)))
      ∙ sym (power-product (k / (2 ^ bits s - 1) * (2 ^ bits s - 1)) (k % (2 ^ bits s - 1)))
      ∙ ap (λ x. product s x (power s (k % (2 ^ bits s - 1)))) (generator.power-turns (bits s) (poly s) (generated s) (k / (2 ^ bits s - 1)))
      ∙ laws.times-one (bits s) (poly s) (power s (k % (2 ^ bits s - 1))) (power-word (k % (2 ^ bits s - 1))))

  -- what times a is 1 is its inverse
  pub inverse-is : (a c : ℕ) → a ≢ 0 → Word s a → Word s c → product s a c ≡ 1 → c ≡ inverse s a
  inverse-is a c ne ha hc e =
      generator.inverse-unique (bits s) (poly s) (generated s) a c (inverse s a) ha hc (inverse-word a ha) e (product-inverse a ne ha)

  pub inverse-zero : inverse s 0 ≡ 0
  unfolding raise
  inverse-zero =
      let more : 2 ^ bits s - 2 ≡ suc (2 ^ bits s - 3) = omega (arith, least-words s) in
      ap (raise (bits s) (poly s) 0) more ∙ product-zero-left (raise (bits s) (poly s) 0 (2 ^ bits s - 3))
