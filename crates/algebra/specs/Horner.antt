-- A block's words as the coefficients of a polynomial, the first the highest, and its value by Horner's rule: what code computes.
-- At a power of α it is a power sum over the places' locators, so a block is valid where that polynomial vanishes at α^1 to α^K.
-- Assumes nothing.
use Rattle.std.specs.Prelude.{◌≡◌, ◌≢◌}
use Rattle.std.proofs.Math.Path.{sym, ap, ap₂}
use Rattle.std.proofs.Common.{◌∙◌}
use Prim.Native.Nat.{ℕ, zero, suc, ◌-◌, ◌≤◌, ◌<◌}
use native.Mathlib.Omega.{arith}
use Rattle.algebra.specs.Field.{Field, ⊗-comm, ⊗-one, ⊗-left-comm}
use Rattle.algebra.specs.Sums.{sum, pow, sum-none, sum-last, sum-cong, sum-mul, pow-zero, pow-suc, pow-swap, pow-ne}
use Rattle.algebra.specs.Vandermonde.{power_sum, Distinct}

module _ (F : Field) where
  open F use {C, zer as 𝟘, add as ◌⊕◌, mul as ◌⊗◌}

  infixl 65 ◌⊕◌
  infixl 70 ◌⊗◌
  unfoldable pub horner : ℕ → (ℕ → C) → C → C
  horner zero w x = 𝟘
  horner (suc n) w x = horner n w x ⊗ x ⊕ w n

  -- the locator of place i of n
  abbrev pub locator : C → ℕ → ℕ → C
  locator α n i = pow F α (n - 1 - i)

  horner-sum : (n : ℕ) (w : ℕ → C) (x : C) → horner n w x ≡ sum F n (λ i. w i ⊗ pow F x (n - 1 - i))
  unfolding horner
  horner-sum zero w x = sym (sum-none F _)
  horner-sum (suc n) w x =
      sym
      (sum-last F n (λ i. w i ⊗ pow F x (suc n - 1 - i))
      ∙ ap₂ ◌⊕◌
      (sum-cong F n _ (λ i. x ⊗ (w i ⊗ pow F x (n - 1 - i)))
      (λ i l.
      ap (λ k. w i ⊗ pow F x k) (let e : suc n - 1 - i ≡ suc (n - 1 - i) = omega arith in e) ∙ rw pow-suc (⊗-left-comm F _ _ _))
      ∙ sum-mul F n x (λ i. w i ⊗ pow F x (n - 1 - i))
      ∙ ap (λ y. x ⊗ y) (sym (horner-sum n w x))
      ∙ ⊗-comm F _ _)
      (ap (λ k. w n ⊗ pow F x k) (let e : suc n - 1 - n ≡ 0 = omega arith in e) ∙ rw pow-zero (⊗-one F _)))

  pub horner-power-sum : (α : C) (n : ℕ) (w : ℕ → C) (j : ℕ) → horner n w (pow F α j) ≡ power_sum F n (locator α n) w j
  horner-power-sum α n w j =
      horner-sum n w (pow F α j) ∙ sum-cong F n _ _ (λ i l. ap (λ y. w i ⊗ y) (pow-swap F α j (n - 1 - i)))

  -- q: how many powers of α differ
  pub locators-distinct : (α : C) (q n : ℕ) → n ≤ q → ((i j : ℕ) → i < j → j < q → pow F α i ≢ pow F α j) → Distinct F n (locator α n)
  locators-distinct α q n h d i j l k e = d (n - 1 - j) (n - 1 - i) (omega arith) (omega arith) (sym e)

  pub locators-nonzero : (α : C) (n : ℕ) → α ≢ 𝟘 → (i : ℕ) → locator α n i ≢ 𝟘
  locators-nonzero α n ne i = pow-ne F α (n - 1 - i) ne
