-- Products are linear in each factor, x passes through them, and 1 is their unit: for words of any number of bits b and any reducing
-- polynomial p, with no side condition but where one is written.
-- Assumes nothing.
use Rattle.std.specs.Prelude.{◌≡◌, ◌⊎◌}
use Rattle.std.proofs.Math.Path.{refl, sym, ap, ap₂, subst}
use Rattle.std.proofs.Common.{◌∙◌, inl, inr, mul-zero, one-mul, mul-one, zero-add, suc-add, mod-eq_of_lt, pow-suc, le_refl, mod-lt}
use Prim.Native.Nat.{ℕ, zero, suc, ◌+◌, ◌*◌, ◌/◌, ◌%◌, ◌^◌, ◌≤◌, ◌<◌}
use Rattle.std.proofs.Math.Nat.{zero-mul, div-eq_of_lt, div-add-mod'}
use native.Mathlib.Omega.{arith}
use Rattle.std.proofs.Math.Pow.{pow_pos, pow_mono}
use Rattle.std.specs.Int.Bits.{xor_zero_r, xor_comm, xor_lt, xor_shifted}
use Rattle.std.proofs.lemmas.Nat.{xor_shr, xor_mod}
use Rattle.finite_field.specs.Xor.{◌⊕◌, bit-cases, bit-lt, bit-times-lt, xor-mid, xor-odd, xor-half, xor-bit, xor-double}
use Rattle.finite_field.specs.Field as field

module _ (b p : ℕ) where
  abbrev times_x : ℕ → ℕ
  times_x = field.times_x b p

  abbrev shift : ℕ → ℕ → ℕ
  shift = field.shift b p

  abbrev times : ℕ → ℕ → ℕ → ℕ
  times = field.times b p

  -- doubling that needs no reduction
  times_x-small : (a : ℕ) → a * 2 < 2 ^ b → times_x a ≡ a * 2
  unfolding field.times_x
  times_x-small a h = rw (mod-eq_of_lt h, div-eq_of_lt h, zero-mul p) (xor_zero_r (a * 2))

  times_x-zero : times_x 0 ≡ 0
  times_x-zero = times_x-small 0 (pow_pos b)

  times_x-xor : (a c : ℕ) → times_x (a ⊕ c) ≡ times_x a ⊕ times_x c
  unfolding field.times_x
  times_x-xor a c =
      ap (λ (x : ℕ). x % 2 ^ b ⊕ x / 2 ^ b % 2 * p) (xor-double a c)
      ∙ ap₂ (λ (x y : ℕ). x ⊕ y % 2 * p) (xor_mod (a * 2) (c * 2) b) (xor_shr (a * 2) (c * 2) b)
      ∙ ap (λ (x : ℕ). (a * 2 % 2 ^ b ⊕ c * 2 % 2 ^ b) ⊕ x * p) (xor-odd (a * 2 / 2 ^ b) (c * 2 / 2 ^ b))
      ∙ ap (λ (x : ℕ). (a * 2 % 2 ^ b ⊕ c * 2 % 2 ^ b) ⊕ x)
      (xor-bit (a * 2 / 2 ^ b % 2) (c * 2 / 2 ^ b % 2) (bit-lt (a * 2 / 2 ^ b)) (bit-lt (c * 2 / 2 ^ b)) p)
      ∙ xor-mid (a * 2 % 2 ^ b) (c * 2 % 2 ^ b) (a * 2 / 2 ^ b % 2 * p) (c * 2 / 2 ^ b % 2 * p)

  times_x-bit : (c a : ℕ) → c < 2 → times_x (c * a) ≡ c * times_x a
  times_x-bit c a h = go (bit-cases c h)
    where
      go : (c ≡ 0) ⊎ (c ≡ 1) → times_x (c * a) ≡ c * times_x a
      go (inl e) = rw (e, zero-mul a, zero-mul (times_x a)) times_x-zero
      go (inr e) = rw (e, one-mul a, one-mul (times_x a))

  -- the factors

  pub times-zero-left : (n c : ℕ) → times n 0 c ≡ 0
  unfolding field.times
  times-zero-left zero c = refl
  times-zero-left (suc n) c = ap₂ ◌⊕◌ (mul-zero (c % 2)) (ap times_x (times-zero-left n (c / 2)) ∙ times_x-zero)

  pub times-zero-right : (n a : ℕ) → times n a 0 ≡ 0
  unfolding field.times
  times-zero-right zero a = refl
  times-zero-right (suc n) a = ap₂ ◌⊕◌ (zero-mul a) (ap times_x (times-zero-right n a) ∙ times_x-zero)

  pub times-xor-right : (n a c d : ℕ) → times n a (c ⊕ d) ≡ times n a c ⊕ times n a d
  unfolding field.times
  times-xor-right zero a c d = refl
  times-xor-right (suc n) a c d =
      ap₂ (λ (x y : ℕ). x * a ⊕ times_x (times n a y)) (xor-odd c d) (xor-half c d)
      ∙ ap₂ ◌⊕◌ (xor-bit (c % 2) (d % 2) (bit-lt c) (bit-lt d) a)
      (ap times_x (times-xor-right n a (c / 2) (d / 2)) ∙ times_x-xor (times n a (c / 2)) (times n a (d / 2)))
      ∙ xor-mid (c % 2 * a) (d % 2 * a) (times_x (times n a (c / 2))) (times_x (times n a (d / 2)))

  times-times_x : (n a c : ℕ) → times n (times_x a) c ≡ times_x (times n a c)
  unfolding field.times
  times-times_x zero a c = sym times_x-zero
  times-times_x (suc n) a c =
      ap₂ ◌⊕◌ (sym (times_x-bit (c % 2) a (bit-lt c))) (ap times_x (times-times_x n a (c / 2)))
      ∙ sym (times_x-xor (c % 2 * a) (times_x (times n a (c / 2))))

  times-shift : (n k a c : ℕ) → times n (shift k a) c ≡ shift k (times n a c)
  unfolding field.shift
  times-shift n zero a c = refl
  times-shift n (suc k) a c = times-times_x n (shift k a) c ∙ ap times_x (times-shift n k a c)

  one-times : (n c : ℕ) → n ≤ b → c < 2 ^ n → times n 1 c ≡ c
  unfolding field.times
  one-times zero c k h = omega arith
  one-times (suc n) c k h =
      let g : c < 2 ^ n * 2 = subst (λ (x : ℕ). c < x) (pow-suc 2 n) h in
      let low : c / 2 < 2 ^ n = omega arith in
      let most : 2 ^ suc n ≤ 2 ^ b = pow_mono k in
      ap₂ ◌⊕◌ (mul-one (c % 2)) (ap times_x (one-times n (c / 2) (omega arith) low) ∙ times_x-small (c / 2) (omega arith))
      ∙ xor_comm (c % 2) (c / 2 * 2)
      ∙ xor_shifted (c / 2) 1 (c % 2) (bit-lt c)
      ∙ div-add-mod' c 2

  pub times-one : (c : ℕ) → c < 2 ^ b → times b 1 c ≡ c
  times-one c h = one-times b c (le_refl b) h

  -- a power of x times c is c shifted
  pub times_power : (k c : ℕ) → c < 2 ^ b → times b (shift k 1) c ≡ shift k c
  times_power k c h = times-shift b k 1 c ∙ ap (shift k) (times-one c h)

  -- shifts

  pub shift-add : (m n a : ℕ) → shift (m + n) a ≡ shift m (shift n a)
  unfolding field.shift
  shift-add zero n a = ap (λ (k : ℕ). shift k a) (zero-add n)
  shift-add (suc m) n a = ap (λ (k : ℕ). shift k a) (suc-add m n) ∙ ap times_x (shift-add m n a)

  pub shift_zero : (n : ℕ) → shift n 0 ≡ 0
  unfolding field.shift
  shift_zero zero = refl
  shift_zero (suc n) = ap times_x (shift_zero n) ∙ times_x-zero

  -- words stay below 2 ^ b

  module _ (p-lt : p < 2 ^ b) where
    times_x-lt : (a : ℕ) → times_x a < 2 ^ b
    unfolding field.times_x
    times_x-lt a =
        xor_lt b (a * 2 % 2 ^ b) (a * 2 / 2 ^ b % 2 * p) (mod-lt (a * 2) (pow_pos b))
        (bit-times-lt (a * 2 / 2 ^ b % 2) p (bit-lt (a * 2 / 2 ^ b)) p-lt)

    pub shift-lt : (n a : ℕ) → a < 2 ^ b → shift n a < 2 ^ b
    unfolding field.shift
    shift-lt zero a h = h
    shift-lt (suc n) a h = times_x-lt (shift n a)

    pub times-lt : (n a c : ℕ) → a < 2 ^ b → times n a c < 2 ^ b
    unfolding field.times
    times-lt zero a c h = pow_pos b
    times-lt (suc n) a c h =
        xor_lt b (c % 2 * a) (times_x (times n a (c / 2))) (bit-times-lt (c % 2) a (bit-lt c) h) (times_x-lt (times n a (c / 2)))
