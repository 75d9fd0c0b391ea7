-- Division of a polynomial by x + a, by Horner's rule, and what follows: a polynomial that is not zero has at most as many roots
-- as its degree. So the places at which a locator vanishes are few enough for their values to be settled.
-- Assumes nothing.
use Rattle.std.specs.Prelude.{◌≡◌, ◌≢◌}
use Rattle.std.proofs.Math.Path.{refl, sym, ap, ap₂}
use Rattle.std.proofs.Common.{◌∙◌, zero-lt-suc, le_of_suc-le-suc, not-suc-le-zero, le_refl, arith}
use Prim.Native.Nat.{ℕ, zero, suc, ◌≤◌, ◌<◌, suc-le-suc}
use Rattle.std.proofs.Math.Decide.{dec_lt}
use Rattle.list_laws.specs.Range.{count, count-first, count_none, count-le, one-no, one-most}
use Rattle.algebra.specs.Field.{
  Field,
  ring,
  ⊕-zero,
  ⊗-comm,
  ⊗-one,
  ⊗-right-zero,
  equal-of-zero,
  zero-of-product,
  is_zero,
  is_zero→zero,
  zero→is_zero,
  ne→nonzero,
}
use Rattle.algebra.specs.Sums.{pow, sum-none, sum_first, sum-cong, sum-mul, pow-zero, pow-suc}
use Rattle.algebra.specs.Vandermonde.{Distinct}
use Rattle.algebra.specs.KeyEquation.{eval}

module _ (F : Field) where
  open F use {C, zer as 𝟘, add as ◌⊕◌, mul as ◌⊗◌, dec}

  infixl 65 ◌⊕◌
  infixl 70 ◌⊗◌
  pub eval-first : (N : ℕ) (P : ℕ → C) (x : C) → eval F (suc N) P x ≡ P zero ⊕ x ⊗ eval F N (λ j. P (suc j)) x
  eval-first N P x =
      sum_first F N _
      ∙ ap₂ ◌⊕◌ (rw pow-zero (⊗-one F _))
      (sum-cong F N _ (λ j. x ⊗ (P (suc j) ⊗ pow F x j)) (λ j l. rw pow-suc (simp ring)) ∙ sum-mul F N x (λ j. P (suc j) ⊗ pow F x j))

  -- the value of the coefficients from i on: what a loop from the highest coefficient down holds when it is at i
  unfoldable pub eval_from : ℕ → (ℕ → C) → C → ℕ → C
  eval_from N P x zero = eval F N P x
  eval_from zero P x (suc i) = 𝟘
  eval_from (suc N) P x (suc i) = eval_from N (λ j. P (suc j)) x i

  pub eval_from-all : (N : ℕ) (P : ℕ → C) (x : C) → eval_from N P x zero ≡ eval F N P x
  unfolding eval_from
  eval_from-all N P x = refl

  pub eval_from-none : (N : ℕ) (P : ℕ → C) (x : C) (i : ℕ) → N ≤ i → eval_from N P x i ≡ 𝟘
  unfolding eval_from
  eval_from-none zero P x zero l = sum-none F _
  eval_from-none zero P x (suc i) l = refl
  eval_from-none (suc N) P x zero l = absurd (not-suc-le-zero l)
  eval_from-none (suc N) P x (suc i) l = eval_from-none N (λ j. P (suc j)) x i (le_of_suc-le-suc l)

  pub eval_from-step : (N : ℕ) (P : ℕ → C) (x : C) (i : ℕ) → i < N → eval_from N P x i ≡ P i ⊕ x ⊗ eval_from N P x (suc i)
  unfolding eval_from
  eval_from-step zero P x i l = absurd (not-suc-le-zero l)
  eval_from-step (suc N) P x zero l = eval-first N P x
  eval_from-step (suc N) P x (suc i) l = eval_from-step N (λ j. P (suc j)) x i (le_of_suc-le-suc l)

  -- the coefficients of (P(x) + P(a)) / (x + a): the steps of Horner's rule at a, but for the last
  unfoldable pub quotient : ℕ → (ℕ → C) → C → ℕ → C
  quotient N P a j = eval_from N P a (suc j)

  pub quotient-top : (N : ℕ) (P : ℕ → C) (a : C) → quotient (suc N) P a N ≡ 𝟘
  unfolding quotient
  quotient-top N P a = eval_from-none (suc N) P a (suc N) (le_refl _)

  pub quotient-step : (N : ℕ) (P : ℕ → C) (a : C) (j : ℕ) → j < N
      → quotient (suc N) P a j ≡ P (suc j) ⊕ a ⊗ quotient (suc N) P a (suc j)
  unfolding quotient
  quotient-step N P a j l = eval_from-step (suc N) P a (suc j) (suc-le-suc l)

  division-step : (p₀ p q r x a : C) → p ⊕ q ≡ (x ⊕ a) ⊗ r → (p₀ ⊕ x ⊗ p) ⊕ (p₀ ⊕ a ⊗ q) ≡ (x ⊕ a) ⊗ (q ⊕ x ⊗ r)
  division-step p₀ p q r x a h =
      (let e : (p₀ ⊕ x ⊗ p) ⊕ (p₀ ⊕ a ⊗ q) ≡ (x ⊕ a) ⊗ q ⊕ x ⊗ (p ⊕ q) = simp ring in e) ∙ rw h (simp ring)

  pub quotient-divides : (N : ℕ) (P : ℕ → C) (a x : C)
      → eval F (suc N) P x ⊕ eval F (suc N) P a ≡ (x ⊕ a) ⊗ eval F N (quotient (suc N) P a) x
  unfolding quotient eval_from
  quotient-divides zero P a x = rw (eval-first zero P x, eval-first zero P a) (simp (sum-none, ring))
  quotient-divides (suc N) P a x =
      ap₂ ◌⊕◌ (eval-first (suc N) P x) (eval-first (suc N) P a)
      ∙ division-step (P zero) _ _ _ x a (quotient-divides N (λ j. P (suc j)) a x)
      ∙ ap (λ y. (x ⊕ a) ⊗ y) (sym (eval-first N (quotient (suc (suc N)) P a) x))

  -- a polynomial with the root a and the quotient zero is zero
  pub zero-of-quotient : (N : ℕ) (P : ℕ → C) (a : C) → eval F (suc N) P a ≡ 𝟘 → ((j : ℕ) → j < N → quotient (suc N) P a j ≡ 𝟘)
      → (j : ℕ) → j < suc N → P j ≡ 𝟘
  unfolding quotient
  zero-of-quotient N P a e h j l =
      sym (⊕-zero F (P j))
      ∙ ap (λ y. P j ⊕ y) (sym (⊗-right-zero F a (above j (dec_lt j N))))
      ∙ sym (eval_from-step (suc N) P a j l)
      ∙ at j l
    where
      above : (j : ℕ) → Dec (j < N) → eval_from (suc N) P a (suc j) ≡ 𝟘
      above j (yes k) = h j k
      above j (no k) = eval_from-none (suc N) P a (suc j) (omega arith)

      at : (j : ℕ) → j < suc N → eval_from (suc N) P a j ≡ 𝟘
      at zero l = eval_from-all (suc N) P a ∙ e
      at (suc j) l = h j (le_of_suc-le-suc l)

  -- the quotient by one root has the other roots
  pub quotient-root : (N : ℕ) (P : ℕ → C) (a x : C) → x ≢ a → eval F (suc N) P a ≡ 𝟘 → eval F (suc N) P x ≡ 𝟘
      → eval F N (quotient (suc N) P a) x ≡ 𝟘
  quotient-root N P a x ne za zx =
      zero-of-product F _ (x ⊕ a) (λ e. ne (equal-of-zero F x a e))
      (⊗-comm F _ _ ∙ sym (quotient-divides N P a x) ∙ ap₂ ◌⊕◌ zx za ∙ ⊕-zero F 𝟘)

  -- how many of the n points are roots
  abbrev pub roots : ℕ → (ℕ → C) → ℕ → (ℕ → C) → ℕ
  roots n X N P = count n (λ i. is_zero F (eval F N P (X i)))

  -- t + 1 coefficients with more than t roots among distinct points are all zero
  pub many-roots : (n t : ℕ) (P X : ℕ → C) → Distinct F n X → t < roots n X (suc t) P → (j : ℕ) → j < suc t → P j ≡ 𝟘
  many-roots zero t P X dis w = absurd (omega (arith, count_none (λ i. is_zero F (eval F (suc t) P (X i)))))
  many-roots (suc n) t P X dis w = go t P w (many-roots n) (dec (eval F (suc t) P (X zero)) 𝟘)
    where
      dis' : Distinct F n (λ i. X (suc i))
      dis' i j l k = dis (suc i) (suc j) (suc-le-suc l) (suc-le-suc k)

      go : (t : ℕ) (P : ℕ → C) → t < roots (suc n) X (suc t) P
          → ((t : ℕ) (P X : ℕ → C) → Distinct F n X → t < roots n X (suc t) P → (j : ℕ) → j < suc t → P j ≡ 𝟘)
          → Dec (eval F (suc t) P (X zero) ≡ 𝟘) → (j : ℕ) → j < suc t → P j ≡ 𝟘
      go t P w ih (no h) =
          ih t P (λ i. X (suc i)) dis'
          (omega (
            arith,
            count-first n (λ i. is_zero F (eval F (suc t) P (X i))),
            one-no (is_zero F (eval F (suc t) P (X zero))) (ne→nonzero F _ h),
          ))
      go zero P w ih (yes e) = zero-of-quotient zero P (X zero) e (λ j l. absurd (not-suc-le-zero l))
      go (suc t) P w ih (yes e) =
          zero-of-quotient (suc t) P (X zero) e
          (ih t (quotient (suc (suc t)) P (X zero)) (λ i. X (suc i)) dis'
          (omega (
            arith,
            count-first n (λ i. is_zero F (eval F (suc (suc t)) P (X i))),
            one-most (is_zero F (eval F (suc (suc t)) P (X zero))),
            count-le n (λ i. is_zero F (eval F (suc (suc t)) P (X (suc i))))
                (λ i. is_zero F (eval F (suc t) (quotient (suc (suc t)) P (X zero)) (X (suc i))))
                (λ i l z.
                zero→is_zero F _
                (quotient-root (suc t) P (X zero) (X (suc i)) (λ q. dis zero (suc i) (zero-lt-suc i) (suc-le-suc l) (sym q)) e
                (is_zero→zero F _ z))),
          )))

  -- a polynomial that is not zero has at most as many roots as its degree
  pub few-roots : (n t : ℕ) (P X : ℕ → C) (p : ℕ) → Distinct F n X → p ≤ t → P p ≢ 𝟘 → roots n X (suc t) P ≤ t
  few-roots n t P X p dis l ne = go (dec_lt t (roots n X (suc t) P))
    where
      go : Dec (t < roots n X (suc t) P) → roots n X (suc t) P ≤ t
      go (yes w) = absurd (ne (many-roots n t P X dis w p (suc-le-suc l)))
      go (no h) = omega arith
