-- The error values. Where G vanishes at every place in error, the quotient of G by one root vanishes at the others, so that place's
-- value alone is left of the power sums. And G itself: a polynomial with given roots, built one root at a time.
-- Assumes nothing.
use Rattle.std.specs.Prelude.{◌≡◌, ◌≢◌, ◌⊎◌, Bool, not, ℕ, zero, suc, ◌≤◌, ◌<◌}
use Rattle.std.proofs.Math.Path.{sym, ap, ap₂}
use Rattle.std.proofs.Common.{◌∙◌, inl, inr, zero-add, zero-lt-suc, not-suc-le-zero, le_refl, le_trans, arith, T_not}
use Rattle.std.proofs.Math.Decide.{ℕ_discrete}
use Rattle.std.proofs.Math.Dec.{T}
use Rattle.list_laws.specs.Range.{count, count_none, count-suc, count-le, one-yes, one-no, up_to}
use Rattle.list_laws.specs.Tests.{decided}
use Rattle.algebra.specs.Field.{
  Field,
  ring,
  zero-⊕,
  ⊕-zero,
  ⊕-self,
  ⊕-⊗,
  ⊗-one,
  ⊗-left-zero,
  ⊗-right-zero,
  is_zero,
  is_zero→zero,
  zero→is_zero,
}
use Rattle.algebra.specs.Sums.{pow, sum-cong, sum-add, sum-mul, sum-last, sum-single, pow-zero}
use Rattle.algebra.specs.Vandermonde.{power_sum, Distinct, distinct-ne}
use Rattle.algebra.specs.KeyEquation.{eval, eval-cong, dot, dot-power-sum}
use Rattle.algebra.specs.Roots.{eval-first, quotient, quotient-root, zero-of-quotient, roots, many-roots}
use Rattle.algebra.specs.Locator.{unit, unit-above, times_x}

module _ (F : Field) where
  open F use {C, zer as 𝟘, add as ◌⊕◌, mul as ◌⊗◌, dec}

  infixl 65 ◌⊕◌
  infixl 70 ◌⊗◌
  module _ (n : ℕ) (X : ℕ → C) (dis : Distinct F n X) (M : ℕ) (G : ℕ → C) (k : ℕ) (l : k < n) (root : eval F (suc M) G (X k) ≡ 𝟘) where
    -- S: the first M power sums of values c, none of which stands outside the roots of G
    pub value : (c S : ℕ → C) → ((i : ℕ) → i < n → c i ≢ 𝟘 → eval F (suc M) G (X i) ≡ 𝟘)
        → ((j : ℕ) → j < M → S j ≡ power_sum F n X c j)
        → dot F M (quotient F (suc M) G (X k)) S 0 ≡ c k ⊗ eval F M (quotient F (suc M) G (X k)) (X k)
    value c S within s =
        dot-power-sum F M n (quotient F (suc M) G (X k)) X c S 0 (λ j m. rw zero-add (s j m))
        ∙ sum-single F n k _ l (λ i m ne. ⊗-left-zero F _ (others i m ne (dec (c i) 𝟘)))
        ∙ rw pow-zero (⊗-one F _)
      where
        others : (i : ℕ) → i < n → i ≢ k → Dec (c i ≡ 𝟘) → c i ⊗ eval F M (quotient F (suc M) G (X k)) (X i) ≡ 𝟘
        others i m ne (yes e) = ⊗-left-zero F _ e
        others i m ne (no h) =
            ⊗-right-zero F _ (quotient-root F M G (X k) (X i) (distinct-ne F n X dis i k m l ne) root (within i m h))

  -- as many roots as the degree: each is simple, so what the value is divided by is not zero
  pub simple-root : (n : ℕ) (X : ℕ → C) → Distinct F n X → (M : ℕ) (G : ℕ → C) → G M ≢ 𝟘 → M ≤ roots F n X (suc M) G
      → (k : ℕ) → k < n → eval F (suc M) G (X k) ≡ 𝟘 → eval F M (quotient F (suc M) G (X k)) (X k) ≢ 𝟘
  simple-root n X dis zero G lead many k l root e =
      lead (zero-of-quotient F zero G (X k) root (λ j m. absurd (not-suc-le-zero m)) zero (zero-lt-suc zero))
  simple-root n X dis (suc M) G lead many k l root e =
      lead
      (zero-of-quotient F (suc M) G (X k) root
      (many-roots F n M (quotient F (suc (suc M)) G (X k)) X dis
      (le_trans many
      (count-le n (λ i. is_zero F (eval F (suc (suc M)) G (X i))) (λ i. is_zero F (eval F (suc M) (quotient F (suc (suc M)) G (X k)) (X i)))
      (λ i m z. zero→is_zero F _ (again i m (is_zero→zero F _ z) (ℕ_discrete i k))))))
      (suc M) (le_refl _))
    where
      again : (i : ℕ) → i < n → eval F (suc (suc M)) G (X i) ≡ 𝟘 → Dec (i ≡ k)
          → eval F (suc M) (quotient F (suc (suc M)) G (X k)) (X i) ≡ 𝟘
      again i m z (yes p) = ap (λ j. eval F (suc M) (quotient F (suc (suc M)) G (X k)) (X j)) p ∙ e
      again i m z (no ne) = quotient-root F (suc M) G (X k) (X i) (distinct-ne F n X dis i k m l ne) root z

  -- G · (x + a)
  abbrev pub times_root : C → (ℕ → C) → ℕ → C
  times_root a G j = times_x F G j ⊕ a ⊗ G j

  pub times_root-eval : (N : ℕ) (a : C) (G : ℕ → C) (x : C) → G N ≡ 𝟘 → eval F (suc N) (times_root a G) x ≡ (x ⊕ a) ⊗ eval F N G x
  unfolding times_x
  times_root-eval N a G x top =
      sum-cong F (suc N) _ (λ j. times_x F G j ⊗ pow F x j ⊕ a ⊗ (G j ⊗ pow F x j)) (λ j l. simp ring)
      ∙ sum-add F (suc N) (λ j. times_x F G j ⊗ pow F x j) (λ j. a ⊗ (G j ⊗ pow F x j))
      ∙ ap₂ ◌⊕◌
      (eval-first F N (times_x F G) x ∙ zero-⊕ F _)
      (sum-mul F (suc N) a (λ j. G j ⊗ pow F x j)
      ∙ ap (λ y. a ⊗ y) (sum-last F N _ ∙ ap (λ y. eval F N G x ⊕ y) (⊗-left-zero F _ top) ∙ ⊕-zero F _))
      ∙ sym (⊕-⊗ F x a (eval F N G x))

  -- G has the degree M and vanishes at the M places below i that are taken
  pub record Vanishing (X : ℕ → C) (taken : ℕ → Bool) (i M : ℕ) (G : ℕ → C) : Type 0 where
    pub degree : M ≡ count i taken
    pub above : (j : ℕ) → M < j → G j ≡ 𝟘
    pub lead : G M ≢ 𝟘
    pub root : (j : ℕ) → j < i → T (taken j) → eval F (suc M) G (X j) ≡ 𝟘

  -- it is a matter of the coefficients alone
  pub vanishing-cong : {X : ℕ → C} {taken : ℕ → Bool} {i M : ℕ} {G H : ℕ → C} → ((j : ℕ) → G j ≡ H j)
      → Vanishing X taken i M G → Vanishing X taken i M H
  vanishing-cong {X} {taken} {i} {M} {G} {H} e v = record {
    degree = v.degree;
    above = λ j l. sym (e j) ∙ v.above j l;
    lead = λ z. v.lead (e M ∙ z);
    root = λ j l t. sym (eval-cong F (suc M) G H (X j) (λ a _. e a)) ∙ v.root j l t;
  }

  module _ (X : ℕ → C) (taken : ℕ → Bool) where
    pub vanishing-none : Vanishing X taken 0 0 (unit F)
    unfolding unit
    vanishing-none = record {
      degree = sym (count_none taken);
      above = unit-above F;
      lead = F.one-ne;
      root = λ j l. absurd (not-suc-le-zero l);
    }

    pub vanishing-skip : {i M : ℕ} {G : ℕ → C} → Vanishing X taken i M G → T (not (taken i)) → Vanishing X taken (suc i) M G
    vanishing-skip {i} {M} {G} v t = record {
      degree = omega (arith, v.degree, count-suc i taken, one-no (taken i) t);
      above = v.above;
      lead = v.lead;
      root = up_to (λ j. T (taken j) → eval F (suc M) G (X j) ≡ 𝟘) i v.root (λ s. absurd (T_not (taken i) t s));
    }

    pub vanishing-take : {i M : ℕ} {G : ℕ → C} → Vanishing X taken i M G → T (taken i)
        → Vanishing X taken (suc i) (suc M) (times_root (X i) G)
    unfolding times_x
    vanishing-take {i} {M} {G} v t = record {
      degree = omega (arith, v.degree, count-suc i taken, one-yes (taken i) t);
      above = none_above;
      lead = λ e. v.lead (sym (⊕-zero F (G M)) ∙ ap (λ x. G M ⊕ x) (sym (⊗-right-zero F (X i) top)) ∙ e);
      root =
          up_to (λ j. T (taken j) → eval F (suc (suc M)) (times_root (X i) G) (X j) ≡ 𝟘) i
          (λ j l s. times_root-eval (suc M) (X i) G (X j) top ∙ ⊗-right-zero F _ (v.root j l s))
          (λ s. times_root-eval (suc M) (X i) G (X i) top ∙ ⊗-left-zero F _ (⊕-self F (X i)));
    }
      where
        top : G (suc M) ≡ 𝟘
        top = v.above (suc M) (le_refl _)

        none_above : (j : ℕ) → suc M < j → times_root (X i) G j ≡ 𝟘
        none_above zero l = absurd (omega arith)
        none_above (suc j) l =
            ap₂ (λ x y. x ⊕ X i ⊗ y) (v.above j (omega arith)) (v.above (suc j) (omega arith)) ∙ simp ring

    -- there is always such a polynomial
    pub vanishing-exists : (i : ℕ) → (M : ℕ) × (G : ℕ → C) × Vanishing X taken i M G
    vanishing-exists zero = (0, unit F, vanishing-none)
    vanishing-exists (suc i) = next (vanishing-exists i) (decided (taken i))
      where
        next : (M : ℕ) × (G : ℕ → C) × Vanishing X taken i M G → T (taken i) ⊎ T (not (taken i))
            → (M : ℕ) × (G : ℕ → C) × Vanishing X taken (suc i) M G
        next v (inl t) = (suc v.0, times_root (X i) v.1, vanishing-take v.2 t)
        next v (inr t) = (v.0, v.1, vanishing-skip v.2 t)
