-- Power sums of a block at its places' locators, and what they settle: a block of weight at most m whose power sums vanish
-- at m exponents in a row is zero. The distance of the code, the key equation and the error values all come from this.
-- Assumes nothing.
use Rattle.std.specs.Prelude.{◌≡◌, ◌≢◌, ℕ, zero, suc, ◌≤◌, ◌<◌}
use Rattle.std.proofs.Common.{sym, ap, ap₂, ◌∙◌, suc-le-suc, zero-lt-suc, le_of_suc-le-suc, not-suc-le-zero, arith}
use Rattle.std.proofs.Math.Decide.{dec_lt}
use Rattle.list_laws.specs.Range.{one-yes, count-first}
use Rattle.algebra.specs.Field.{
  Field,
  ring,
  ⊗-one,
  ⊗-left-zero,
  equal-of-zero,
  zero-of-product,
  nonzero,
  ne→nonzero,
}
use Rattle.algebra.specs.Sums.{sum, pow, sum_first, sum-cong, sum-add, sum-mul, sum-zero, pow-zero, pow-suc, weight, weight-le}

module _ (F : Field) where
  open F use {C, zer as 𝟘, add as ◌⊕◌, mul as ◌⊗◌, dec}

  infixl 65 ◌⊕◌
  infixl 70 ◌⊗◌
  -- Σ c_i X_i^j over the n places: c the values, X the locators
  abbrev pub power_sum : ℕ → (ℕ → C) → (ℕ → C) → ℕ → C
  power_sum n X c j = sum F n (λ i. c i ⊗ pow F (X i) j)

  abbrev pub Distinct : ℕ → (ℕ → C) → Type 0
  Distinct n X = (i j : ℕ) → i < j → j < n → X i ≢ X j

  pub distinct-ne : (n : ℕ) (X : ℕ → C) → Distinct n X → (i j : ℕ) → i < n → j < n → i ≢ j → X i ≢ X j
  distinct-ne n X dis i j l k ne e = go (dec_lt i j)
    where
      go : Dec (i < j) → ⊥
      go (yes p) = dis i j p k e
      go (no q) = dis j i (omega arith) l (sym e)

  pub power-sum-cong : (n : ℕ) (X c d : ℕ → C) (j : ℕ) → ((i : ℕ) → i < n → c i ≡ d i) → power_sum n X c j ≡ power_sum n X d j
  power-sum-cong n X c d j h = sum-cong F n _ _ (λ i l. ap (λ x. x ⊗ pow F (X i) j) (h i l))

  pub power-sum-add : (n : ℕ) (X a b : ℕ → C) (j : ℕ) → power_sum n X (λ i. a i ⊕ b i) j ≡ power_sum n X a j ⊕ power_sum n X b j
  power-sum-add n X a b j =
      sum-cong F n _ (λ i. a i ⊗ pow F (X i) j ⊕ b i ⊗ pow F (X i) j) (λ i l. simp ring)
      ∙ sum-add F n (λ i. a i ⊗ pow F (X i) j) (λ i. b i ⊗ pow F (X i) j)

  -- the next exponent is one locator more in each value
  pub power-sum-next : (n : ℕ) (X c : ℕ → C) (j : ℕ) → power_sum n X c (suc j) ≡ power_sum n X (λ i. c i ⊗ X i) j
  power-sum-next n X c j = sum-cong F n _ _ (λ i l. rw pow-suc (simp ring))

  -- a locator a is taken out: the place that has it gets the value zero
  pub power-sum-without : (n : ℕ) (X c : ℕ → C) (a : C) (j : ℕ)
      → power_sum n X (λ i. c i ⊗ (X i ⊕ a)) j ≡ power_sum n X c (suc j) ⊕ a ⊗ power_sum n X c j
  power-sum-without n X c a j =
      sum-cong F n _ (λ i. c i ⊗ pow F (X i) (suc j) ⊕ a ⊗ (c i ⊗ pow F (X i) j)) (λ i l. rw pow-suc (simp ring))
      ∙ sum-add F n (λ i. c i ⊗ pow F (X i) (suc j)) (λ i. a ⊗ (c i ⊗ pow F (X i) j))
      ∙ ap (λ x. power_sum n X c (suc j) ⊕ x) (sum-mul F n a (λ i. c i ⊗ pow F (X i) j))

  -- what is to be proved by induction on the number of places
  abbrev Settled : ℕ → Type 0
  Settled n = (m : ℕ) (X c : ℕ → C) → Distinct n X → weight F n c ≤ m → ((j : ℕ) → j < m → power_sum n X c j ≡ 𝟘)
      → (i : ℕ) → i < n → c i ≡ 𝟘

  -- one place more: take its locator out, and the other values, changed by a factor that is not zero, are settled
  module _ (n : ℕ) (ih : Settled n) (X c : ℕ → C) (dis : Distinct (suc n) X) where
    abbrev X' : ℕ → C
    X' i = X (suc i)

    abbrev c' : ℕ → C
    c' i = c (suc i)

    dis' : Distinct n X'
    dis' i j l k = dis (suc i) (suc j) (suc-le-suc l) (suc-le-suc k)

    from_tail : c zero ≡ 𝟘 → ((i : ℕ) → i < n → c' i ≡ 𝟘) → (i : ℕ) → i < suc n → c i ≡ 𝟘
    from_tail e h zero l = e
    from_tail e h (suc i) l = h i (le_of_suc-le-suc l)

    tail-sum : (j : ℕ) → power_sum (suc n) X c j ≡ 𝟘 → power_sum n X' c' j ≡ c zero ⊗ pow F (X zero) j
    tail-sum j z = sym (equal-of-zero F _ _ (sym (sum_first F n (λ i. c i ⊗ pow F (X i) j)) ∙ z))

    settled-next : (m : ℕ) → Dec (c zero ≡ 𝟘) → weight F (suc n) c ≤ m → ((j : ℕ) → j < m → power_sum (suc n) X c j ≡ 𝟘)
        → (i : ℕ) → i < suc n → c i ≡ 𝟘
    settled-next m (yes e) w z =
        from_tail e
        (ih m X' c' dis' (omega (arith, count-first n (λ i. nonzero F (c i)))) (λ j l. tail-sum j (z j l) ∙ ⊗-left-zero F _ e))
    settled-next zero (no h) w z =
        absurd (omega (arith, one-yes (nonzero F (c zero)) (ne→nonzero F (c zero) h), count-first n (λ i. nonzero F (c i))))
    settled-next (suc m) (no h) w z =
        from_tail
        (sym (tail-sum zero (z zero (zero-lt-suc m)) ∙ rw pow-zero (⊗-one F _)) ∙ sum-zero F n _ (λ i l. ⊗-left-zero F _ (tail i l)))
        tail
      where
        tail : (i : ℕ) → i < n → c' i ≡ 𝟘
        tail i l =
            zero-of-product F (c' i) (X' i ⊕ X zero)
            (λ e. dis zero (suc i) (zero-lt-suc i) (suc-le-suc l) (sym (equal-of-zero F _ _ e)))
            (ih m X' (λ k. c' k ⊗ (X' k ⊕ X zero)) dis'
            (omega (
              arith,
              one-yes (nonzero F (c zero)) (ne→nonzero F (c zero) h),
              count-first n (λ i. nonzero F (c i)),
              weight-le F n c' (λ k. c' k ⊗ (X' k ⊕ X zero)) (λ k _. ⊗-left-zero F _),
            ))
            (λ j k.
            power-sum-without n X' c' (X zero) j
            ∙ ap₂ (λ x y. x ⊕ X zero ⊗ y) (tail-sum (suc j) (z (suc j) (suc-le-suc k))) (tail-sum j (z j (omega arith)))
            ∙ rw pow-suc (simp ring))
            i l)

  pub vandermonde : (n m : ℕ) (X c : ℕ → C) → Distinct n X → weight F n c ≤ m → ((j : ℕ) → j < m → power_sum n X c j ≡ 𝟘)
      → (i : ℕ) → i < n → c i ≡ 𝟘
  vandermonde zero m X c dis w z i l = absurd (not-suc-le-zero l)
  vandermonde (suc n) m X c dis w z i l = settled-next n (vandermonde n) X c dis m (dec (c zero) 𝟘) w z i l
