-- The key equation, with the locator in forward form: it vanishes at the locators themselves, not at their inverses.
-- So there is neither a convolution nor a minimal solution in it: any coefficients that annihilate the syndromes will do.
-- Assumes nothing.
use Rattle.std.specs.Prelude.{◌≡◌, ℕ, suc, ◌+◌, ◌≤◌, ◌<◌}
use Rattle.std.proofs.Common.{sym, ap, ap₂, ◌∙◌, le_trans, arith}
use Rattle.algebra.specs.Field.{Field, ring, ⊗-left-zero}
use Rattle.algebra.specs.Sums.{sum, pow, sum-cong, sum-mul, sum-swap, sum-short, pow-add, weight, weight-le}
use Rattle.algebra.specs.Vandermonde.{power_sum, Distinct, vandermonde}

module _ (F : Field) where
  open F use {C, zer as 𝟘, mul as ◌⊗◌}

  infixl 70 ◌⊗◌
  -- the value at x of the polynomial with the N coefficients P, the lowest first
  abbrev pub eval : ℕ → (ℕ → C) → C → C
  eval N P x = sum F N (λ j. P j ⊗ pow F x j)

  -- the N coefficients P against the sequence U from i on
  abbrev pub dot : ℕ → (ℕ → C) → (ℕ → C) → ℕ → C
  dot N P U i = sum F N (λ j. P j ⊗ U (i + j))

  pub eval-cong : (N : ℕ) (P Q : ℕ → C) (x : C) → ((j : ℕ) → j < N → P j ≡ Q j) → eval N P x ≡ eval N Q x
  eval-cong N P Q x h = sum-cong F N _ _ (λ j l. ap (λ p. p ⊗ pow F x j) (h j l))

  pub dot-cong : (N : ℕ) (P Q U W : ℕ → C) (i : ℕ) → ((j : ℕ) → j < N → P j ≡ Q j)
      → ((j : ℕ) → j < N → U (i + j) ≡ W (i + j)) → dot N P U i ≡ dot N Q W i
  dot-cong N P Q U W i p u = sum-cong F N _ _ (λ j l. ap₂ ◌⊗◌ (p j l) (u j l))

  -- coefficients that are zero are left out
  pub eval-short : (M N : ℕ) (P : ℕ → C) (x : C) → M ≤ N → ((j : ℕ) → M ≤ j → P j ≡ 𝟘) → eval N P x ≡ eval M P x
  eval-short M N P x l h = sum-short F M N (λ j. P j ⊗ pow F x j) l (λ j k m. ⊗-left-zero F _ (h j k))

  pub dot-short : (M N : ℕ) (P U : ℕ → C) (i : ℕ) → M ≤ N → ((j : ℕ) → M ≤ j → P j ≡ 𝟘) → dot N P U i ≡ dot M P U i
  dot-short M N P U i l h = sum-short F M N (λ j. P j ⊗ U (i + j)) l (λ j k m. ⊗-left-zero F _ (h j k))

  -- Σ_j P_j Σ_l c_l X_l^(i+j)  =  Σ_l c_l P(X_l) X_l^i
  pub dot-power-sum : (N n : ℕ) (P X c U : ℕ → C) (i : ℕ) → ((j : ℕ) → j < N → U (i + j) ≡ power_sum F n X c (i + j))
      → dot N P U i ≡ power_sum F n X (λ l. c l ⊗ eval N P (X l)) i
  dot-power-sum N n P X c U i h =
      sum-cong F N _ (λ j. sum F n (λ l. P j ⊗ (c l ⊗ pow F (X l) (i + j))))
      (λ j l. ap (λ x. P j ⊗ x) (h j l) ∙ sym (sum-mul F n (P j) (λ l. c l ⊗ pow F (X l) (i + j))))
      ∙ sum-swap F N n (λ j l. P j ⊗ (c l ⊗ pow F (X l) (i + j)))
      ∙ sum-cong F n _ _
      (λ l k.
      sum-cong F N _ (λ j. (c l ⊗ pow F (X l) i) ⊗ (P j ⊗ pow F (X l) j)) (λ j m. rw pow-add (simp ring))
      ∙ sum-mul F N (c l ⊗ pow F (X l) i) (λ j. P j ⊗ pow F (X l) j)
      ∙ simp ring)

  -- t + 1 coefficients that annihilate t places of the power sums of at most t values vanish wherever a value is not zero
  pub key : (t n : ℕ) (P X c U : ℕ → C) → Distinct F n X → weight F n c ≤ t → ((j : ℕ) → j < t + t → U j ≡ power_sum F n X c j)
      → ((i : ℕ) → i < t → dot (suc t) P U i ≡ 𝟘) → (l : ℕ) → l < n → c l ⊗ eval (suc t) P (X l) ≡ 𝟘
  key t n P X c U dis w u z =
      vandermonde F n t X (λ l. c l ⊗ eval (suc t) P (X l)) dis
      (le_trans (weight-le F n c (λ l. c l ⊗ eval (suc t) P (X l)) (λ l k. ⊗-left-zero F _)) w)
      (λ i k. sym (dot-power-sum (suc t) n P X c U i (λ j m. u (i + j) (omega arith))) ∙ z i k)
