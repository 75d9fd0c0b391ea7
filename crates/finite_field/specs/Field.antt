-- The fields of the five word sizes (document 01, "Words and checks"). A word is a polynomial over the two bits, bit i the coefficient
-- of x ^ i; sums are bit by bit, and products are reduced by the polynomial of the word size. x is the number 2.
-- Assumes nothing.
use Rattle.std.specs.Prelude.{cond, ℕ, zero, suc, ◌-◌, ◌*◌, ◌/◌, ◌%◌, ◌^◌, ◌<◌, eqb}
use Rattle.finite_field.specs.Xor.{◌⊕◌}

pub data WordSize : Type 0 where
  w4 w6 w8 w10 w12 : WordSize

abbrev pub bits : WordSize → ℕ
bits w4 = 4
bits w6 = 6
bits w8 = 8
bits w10 = 10
bits w12 = 12

-- the word size that a number names. Any other number is taken for 12 here, and is refused where it comes in (number 32)
abbrev pub size_of : ℕ → WordSize
size_of b = cond (eqb b 4) w4 (cond (eqb b 6) w6 (cond (eqb b 8) w8 (cond (eqb b 10) w10 w12)))

-- the polynomial of the word size, less its leading term x ^ bits
abbrev pub poly : WordSize → ℕ
-- x + 1
poly w4 = 3
-- x + 1
poly w6 = 3
-- x^5 + x^3 + x^2 + 1
poly w8 = 45
-- x^3 + 1
poly w10 = 9
-- x^6 + x^5 + x^3 + 1
poly w12 = 105

-- a number is a word of this size
abbrev pub Word : WordSize → ℕ → Type 0
Word s a = a < 2 ^ bits s

-- b bits a word, p the polynomial less its leading term
module _ (b p : ℕ) where
  -- times x: doubled, and reduced where x ^ b came up
  unfoldable pub times_x : ℕ → ℕ
  times_x a = a * 2 % 2 ^ b ⊕ a * 2 / 2 ^ b % 2 * p

  -- times x ^ n
  unfoldable pub shift : ℕ → ℕ → ℕ
  shift zero a = a
  shift (suc n) a = times_x (shift n a)

  -- a times the lowest n bits of c: a times bit 0, and x times the product with the bits above it
  unfoldable pub times : ℕ → ℕ → ℕ → ℕ
  times zero a c = 0
  times (suc n) a c = c % 2 * a ⊕ times_x (times n a (c / 2))

  -- a ^ n
  unfoldable pub raise : ℕ → ℕ → ℕ
  raise a zero = 1
  raise a (suc n) = times b a (raise a n)

abbrev pub product : WordSize → ℕ → ℕ → ℕ
product s a c = times (bits s) (poly s) (bits s) a c

-- 2 ^ n in the field
abbrev pub power : WordSize → ℕ → ℕ
power s n = shift (bits s) (poly s) n 1

-- 1 / a in the field, by Fermat's rule: a ^ (2 ^ bits - 2)
abbrev pub inverse : WordSize → ℕ → ℕ
inverse s a = raise (bits s) (poly s) a (2 ^ bits s - 2)
