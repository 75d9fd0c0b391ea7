-- Polynomials over any field by Horner's rule, the highest coefficient first: from the first coefficient on, the product with a root,
-- and a step of the long division. With these a block of words, and its check words, are followed in the field.
-- Assumes nothing.
use Rattle.std.specs.Prelude.{◌≡◌}
use Rattle.std.proofs.Math.Path.{refl, ap, ap₂}
use Rattle.std.proofs.Common.{sym, ◌∙◌, le_refl, arith}
use Prim.Native.Nat.{ℕ, zero, suc, ◌<◌}
use Rattle.algebra.specs.Field.{Field, ring, ⊕-assoc, ⊕-zero, equal-of-zero}
use Rattle.algebra.specs.Sums.{pow, pow-zero, pow-suc}
use Rattle.algebra.specs.Horner.{horner}

-- horner n w a is the value at a of the polynomial w of n coefficients
module _ (F : Field) where
  open F use {C, zer as 𝟘, one as 𝟙, add as ◌⊕◌, mul as ◌⊗◌}

  infixl 65 ◌⊕◌
  infixl 70 ◌⊗◌
  one_more : (c p h a w : C) → (c ⊗ p ⊕ h) ⊗ a ⊕ w ≡ c ⊗ (a ⊗ p) ⊕ (h ⊗ a ⊕ w)
  one_more c p h a w = simp ring

  pub horner-first : (n : ℕ) (w : ℕ → C) (a : C) → horner F (suc n) w a ≡ w 0 ⊗ pow F a n ⊕ horner F n (λ i. w (suc i)) a
  unfolding horner
  horner-first zero w a = rw pow-zero (simp ring)
  horner-first (suc n) w a = ap (λ y. y ⊗ a ⊕ w (suc n)) (horner-first n w a) ∙ rw pow-suc (one_more _ _ _ _ _)

  pub horner-none : (v a : C) (w : ℕ → C) → v ≡ v ⊗ pow F a 0 ⊕ horner F 0 w a
  unfolding horner
  horner-none v a w = rw pow-zero (simp ring)

  pub horner-step : (n : ℕ) (v a : C) (w : ℕ → C)
      → (v ⊗ a ⊕ w 0) ⊗ pow F a n ⊕ horner F n (λ i. w (suc i)) a ≡ v ⊗ pow F a (suc n) ⊕ horner F (suc n) w a
  horner-step n v a w = rw (horner-first n w a, pow-suc) (simp ring)

  pub from_zero : (a b : C) → 𝟘 ⊗ a ⊕ b ≡ b
  from_zero a b = simp ring

  pub horner-cong : (n : ℕ) (u v : ℕ → C) (a : C) → ((i : ℕ) → i < n → u i ≡ v i) → horner F n u a ≡ horner F n v a
  unfolding horner
  horner-cong zero u v a h = refl
  horner-cong (suc n) u v a h =
      ap₂ (λ y z. y ⊗ a ⊕ z) (horner-cong n u v a (λ i l. h i (omega arith))) (h n (le_refl (suc n)))

  pub horner-zero : (n : ℕ) (u : ℕ → C) (a : C) → ((i : ℕ) → i < n → u i ≡ 𝟘) → horner F n u a ≡ 𝟘
  unfolding horner
  horner-zero zero u a h = refl
  horner-zero (suc n) u a h =
      ap₂ (λ y z. y ⊗ a ⊕ z) (horner-zero n u a (λ i l. h i (omega arith))) (h n (le_refl (suc n))) ∙ simp ring

  linear-step : (p q u v c a : C) → (p ⊕ c ⊗ q) ⊗ a ⊕ (u ⊕ c ⊗ v) ≡ p ⊗ a ⊕ u ⊕ c ⊗ (q ⊗ a ⊕ v)
  linear-step p q u v c a = simp ring

  pub horner-linear : (n : ℕ) (u v : ℕ → C) (c a : C) → horner F n (λ i. u i ⊕ c ⊗ v i) a ≡ horner F n u a ⊕ c ⊗ horner F n v a
  unfolding horner
  horner-linear zero u v c a = simp ring
  horner-linear (suc n) u v c a =
      ap (λ y. y ⊗ a ⊕ (u n ⊕ c ⊗ v n)) (horner-linear n u v c a) ∙ linear-step _ _ _ _ _ _

  -- the last coefficient is zero: one place more is times a
  horner-shift : (n : ℕ) (u : ℕ → C) (a : C) → u n ≡ 𝟘 → horner F (suc n) u a ≡ horner F n u a ⊗ a
  unfolding horner
  horner-shift n u a e = ap (λ y. horner F n u a ⊗ a ⊕ y) e ∙ ⊕-zero F _

  factor-out : (x y p c a : C) → x ⊕ y ≡ p ⊗ a → x ⊕ (y ⊕ c ⊗ p) ≡ (a ⊕ c) ⊗ p
  factor-out x y p c a e = sym (⊕-assoc F _ _ _) ∙ ap (λ t. t ⊕ c ⊗ p) e ∙ simp ring

  -- q is p times x + c
  pub root-value : (n : ℕ) (p q : ℕ → C) (c a : C) → q 0 ≡ p 0 → p (suc n) ≡ 𝟘
      → ((i : ℕ) → i < suc n → q (suc i) ≡ p (suc i) ⊕ c ⊗ p i)
      → horner F (suc (suc n)) q a ≡ (a ⊕ c) ⊗ horner F (suc n) p a
  root-value n p q c a first last next =
      horner-first (suc n) q a
      ∙ ap₂ (λ y z. y ⊗ pow F a (suc n) ⊕ z) first
      (horner-cong (suc n) (λ i. q (suc i)) (λ i. p (suc i) ⊕ c ⊗ p i) a next ∙ horner-linear (suc n) (λ i. p (suc i)) p c a)
      ∙ factor-out _ _ _ _ _ (sym (horner-first (suc n) p a) ∙ horner-shift (suc n) p a last)

  step-ring : (r h g w p a m : C) → r ⊗ m ⊕ h ≡ p ⊗ a → g ≡ m → h ⊕ (w ⊕ r) ⊗ g ≡ p ⊗ a ⊕ w ⊗ m
  step-ring r h g w p a m e d = rw (d, ← e) (simp ring)

  -- p is a polynomial of degree n with leading 1 that vanishes at a; q is what a step of the division by p makes of r
  pub step_value : (n : ℕ) (p r q : ℕ → C) (w a : C) → p 0 ≡ 𝟙 → horner F (suc n) p a ≡ 𝟘 → r n ≡ 𝟘
      → ((i : ℕ) → i < n → q i ≡ r (suc i) ⊕ (w ⊕ r 0) ⊗ p (suc i))
      → horner F n q a ≡ horner F n r a ⊗ a ⊕ w ⊗ pow F a n
  step_value n p r q w a first vanishes last next =
      horner-cong n q (λ i. r (suc i) ⊕ (w ⊕ r 0) ⊗ p (suc i)) a next
      ∙ horner-linear n (λ i. r (suc i)) (λ i. p (suc i)) (w ⊕ r 0) a
      ∙ step-ring (r 0) _ _ w _ a (pow F a n) (sym (horner-first n r a) ∙ horner-shift n r a last) top
    where
      top : horner F n (λ i. p (suc i)) a ≡ pow F a n
      top =
          sym
          (equal-of-zero F (pow F a n) (horner F n (λ i. p (suc i)) a)
          (ap (λ y. y ⊕ horner F n (λ i. p (suc i)) a) (sym (ap (λ y. y ⊗ pow F a n) first ∙ simp ring))
          ∙ sym (horner-first n p a)
          ∙ vanishes))

  pub carry : (v w a m h : C) → v ⊗ m ≡ h → (v ⊗ a ⊕ w) ⊗ m ≡ h ⊗ a ⊕ w ⊗ m
  carry v w a m h e = rw (← e) (simp ring)
