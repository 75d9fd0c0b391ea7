-- The marked places, taken out of the syndromes one after another: U[j] becomes U[j + 1] + X-as-U[j], and U gets one shorter.
-- What is left are the power sums of the errors alone, each value changed by a factor that is not zero; so the key equation finds them.
-- Assumes nothing.
use Rattle.std.specs.Prelude.{◌≡◌, refl, ◌≢◌, Bool, true, false, not}
use Rattle.std.proofs.Math.Path.{sym}
use Rattle.std.proofs.Common.{ap, ap₂, ◌∙◌, not-suc-le-zero, le_trans, arith, T_not}
use Prim.Native.Nat.{ℕ, zero, suc, ◌+◌, ◌≤◌, ◌<◌}
use Rattle.std.proofs.Math.Numerals.{add-one}
use Rattle.std.proofs.Math.Dec.{T, not_T}
use Rattle.list_laws.specs.Range.{one, count-suc, count-le, up_to}
use Rattle.algebra.specs.Field.{
  Field,
  ⊕-self,
  zero-⊕,
  ⊗-assoc,
  ⊗-comm,
  ⊗-one,
  ⊗-ne,
  ⊗-left-zero,
  ⊗-right-zero,
  equal-of-zero,
  zero-of-equal,
  zero-of-product,
  nonzero,
  nonzero→ne,
}
use Rattle.algebra.specs.Sums.{weight}
use Rattle.algebra.specs.Vandermonde.{
  power_sum,
  Distinct,
  distinct-ne,
  power-sum-cong,
  power-sum-add,
  power-sum-next,
  power-sum-without,
}
use Rattle.algebra.specs.KeyEquation.{eval, dot, key}
use Rattle.algebra.specs.Distance.{Valid, wrong, errors, erasures, wrong→read, wrong→ne, read→wrong}

module _ (F : Field) where
  open F use {C, zer as 𝟘, one as 𝟙, add as ◌⊕◌, mul as ◌⊗◌}

  infixl 65 ◌⊕◌
  infixl 70 ◌⊗◌
  -- the locator a is taken out of the sequence U if the place is marked
  abbrev pub take_out : Bool → C → (ℕ → C) → ℕ → C
  take_out true a U j = U (suc j) ⊕ a ⊗ U j
  take_out false a U j = U j

  -- the marked places among the first i are taken out
  unfoldable pub erase : ℕ → (ℕ → Bool) → (ℕ → C) → (ℕ → C) → ℕ → C
  erase zero marked X U = U
  erase (suc i) marked X U = take_out (marked i) (X i) (erase i marked X U)

  pub take_out-marked : (mark : Bool) (a : C) (U : ℕ → C) (j : ℕ) → T mark → take_out mark a U j ≡ U (suc j) ⊕ a ⊗ U j
  take_out-marked true a U j t = refl
  take_out-marked false a U j t = absurd t

  pub take_out-read : (mark : Bool) (a : C) (U : ℕ → C) (j : ℕ) → T (not mark) → take_out mark a U j ≡ U j
  take_out-read true a U j t = absurd t
  take_out-read false a U j t = refl

  pub erase-next : (i : ℕ) (marked : ℕ → Bool) (X U : ℕ → C) → erase (i + 1) marked X U ≡ take_out (marked i) (X i) (erase i marked X U)
  unfolding erase
  erase-next i marked X U = rw add-one

  abbrev factor : Bool → C → C → C
  factor true a x = x ⊕ a
  factor false a x = 𝟙

  -- what the taking out multiplies the value at the locator x by
  unfoldable pub erase_factor : ℕ → (ℕ → Bool) → (ℕ → C) → C → C
  erase_factor zero marked X x = 𝟙
  erase_factor (suc i) marked X x = erase_factor i marked X x ⊗ factor (marked i) (X i) x

  take_out-power-sum : (mark : Bool) (n : ℕ) (a : C) (X c U : ℕ → C) (j : ℕ) → ((k : ℕ) → k < suc (j + one mark) → U k ≡ power_sum F n X c k)
      → take_out mark a U j ≡ power_sum F n X (λ l. c l ⊗ factor mark a (X l)) j
  take_out-power-sum true n a X c U j h =
      ap₂ (λ x y. x ⊕ a ⊗ y) (h (suc j) (omega arith)) (h j (omega arith)) ∙ sym (power-sum-without F n X c a j)
  take_out-power-sum false n a X c U j h =
      h j (omega arith) ∙ power-sum-cong F n X c (λ l. c l ⊗ 𝟙) j (λ l m. sym (⊗-one F (c l)))

  -- of m power sums, m less the number of marked places are left
  pub erase-power-sum : (i m n : ℕ) (marked : ℕ → Bool) (A X c U : ℕ → C) → ((j : ℕ) → j < m → U j ≡ power_sum F n X c j)
      → (j : ℕ) → j + erasures F i marked < m → erase i marked A U j ≡ power_sum F n X (λ l. c l ⊗ erase_factor i marked A (X l)) j
  unfolding erase erase_factor
  erase-power-sum zero m n marked A X c U h j l =
      h j (omega arith) ∙ power-sum-cong F n X c (λ l. c l ⊗ 𝟙) j (λ l k. sym (⊗-one F (c l)))
  erase-power-sum (suc i) m n marked A X c U h j l =
      take_out-power-sum (marked i) n (A i) X (λ l. c l ⊗ erase_factor i marked A (X l)) (erase i marked A U) j
      (λ k p. erase-power-sum i m n marked A X c U h k (omega (arith, count-suc i marked)))
      ∙ power-sum-cong F n X _ _ j (λ l k. ⊗-assoc F _ _ _)

  factor-zero : (mark : Bool) (a : C) → T mark → factor mark a a ≡ 𝟘
  factor-zero true a t = ⊕-self F a
  factor-zero false a t = absurd t

  factor-ne : (mark : Bool) (a x : C) → (T mark → x ≢ a) → factor mark a x ≢ 𝟘
  factor-ne true a x h e = h tt (equal-of-zero F x a e)
  factor-ne false a x h e = F.one-ne e

  -- a marked place is gone
  pub erase_factor-zero : (i : ℕ) (marked : ℕ → Bool) (A : ℕ → C) (k : ℕ) → k < i → T (marked k) → erase_factor i marked A (A k) ≡ 𝟘
  unfolding erase_factor
  erase_factor-zero zero marked A k l t = absurd (not-suc-le-zero l)
  erase_factor-zero (suc i) marked A k l t =
      up_to (λ k. T (marked k) → erase_factor i marked A (A k) ⊗ factor (marked i) (A i) (A k) ≡ 𝟘) i
      (λ k l t. ⊗-left-zero F _ (erase_factor-zero i marked A k l t))
      (λ t. ⊗-right-zero F _ (factor-zero (marked i) (A i) t))
      k l t

  -- and the others are not
  pub erase_factor-ne : (i : ℕ) (marked : ℕ → Bool) (A : ℕ → C) (x : C) → ((k : ℕ) → k < i → T (marked k) → x ≢ A k)
      → erase_factor i marked A x ≢ 𝟘
  unfolding erase_factor
  erase_factor-ne zero marked A x h = F.one-ne
  erase_factor-ne (suc i) marked A x h =
      ⊗-ne F _ _ (erase_factor-ne i marked A x (λ k l. h k (omega arith))) (factor-ne (marked i) (A i) x (h i (omega arith)))

  -- the syndromes of y are the power sums of its errors against a valid block b, the exponents counted from 0
  pub syndromes-of-errors : (n K : ℕ) (X y b : ℕ → C) → Valid F n X K b
      → (j : ℕ) → j < K → power_sum F n X y (suc j) ≡ power_sum F n X (λ i. (b i ⊕ y i) ⊗ X i) j
  syndromes-of-errors n K X y b valid j l =
      sym (zero-⊕ F _)
      ∙ ap (λ x. x ⊕ power_sum F n X y (suc j)) (sym (valid j l))
      ∙ sym (power-sum-add F n X b y (suc j))
      ∙ power-sum-next F n X (λ i. b i ⊕ y i) j

  -- P: t + 1 coefficients that annihilate t places of the syndromes with the marked places taken out.
  -- Where a word was read wrong, P vanishes.
  pub locator-vanishes : (n K t : ℕ) (X : ℕ → C) (marked : ℕ → Bool) (y b S P : ℕ → C) → Distinct F n X → ((i : ℕ) → i < n → X i ≢ 𝟘)
      → ((j : ℕ) → j < K → S j ≡ power_sum F n X y (suc j)) → Valid F n X K b
      → erasures F n marked + (t + t) ≤ K → errors F n marked y b ≤ t
      → ((i : ℕ) → i < t → dot F (suc t) P (erase n marked X S) i ≡ 𝟘)
      → (i : ℕ) → i < n → T (wrong F (marked i) (y i) (b i)) → eval F (suc t) P (X i) ≡ 𝟘
  locator-vanishes n K t X marked y b S P dis ne S-is valid fits few annihilates i l w =
      zero-of-product F _ (c i) c-ne
      (⊗-comm F _ _
      ∙ key F t n P X c (erase n marked X S) dis c-few
      (λ j k. erase-power-sum n K n marked X X error S (λ j l. S-is j l ∙ syndromes-of-errors n K X y b valid j l) j (omega arith))
      annihilates i l)
    where
      error : ℕ → C
      error k = (b k ⊕ y k) ⊗ X k

      c : ℕ → C
      c k = error k ⊗ erase_factor n marked X (X k)

      c-ne : c i ≢ 𝟘
      c-ne =
          ⊗-ne F _ _ (⊗-ne F _ _ (λ e. wrong→ne F (marked i) (y i) (b i) w (equal-of-zero F _ _ e)) (ne i l))
          (erase_factor-ne n marked X (X i)
          (λ k p t. distinct-ne F n X dis i k l p (λ e. T_not (marked k) (rw e at (wrong→read F (marked i) (y i) (b i) w)) t)))

      c-few : weight F n c ≤ t
      c-few = le_trans (count-le n (λ k. nonzero F (c k)) (λ k. wrong F (marked k) (y k) (b k)) (λ k p t.
          read→wrong F (marked k) (y k) (b k)
          (not_T (marked k) (λ m. nonzero→ne F (c k) t (⊗-right-zero F _ (erase_factor-zero n marked X k p m))))
          (λ e. nonzero→ne F (c k) t (⊗-left-zero F _ (⊗-left-zero F _ (zero-of-equal F e)))))) few
