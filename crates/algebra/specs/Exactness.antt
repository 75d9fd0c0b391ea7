-- The corrector as a definition, and the places that it does not take: whatever locator it works with, a near block has the received word
-- there. proofs/Candidates says why it is exact.
-- Assumes nothing.
use Rattle.std.specs.Prelude.{◌≡◌, refl, ◌≢◌, ◌↔◌, ◌⊎◌, Bool, true, false, not, cond, ◌||◌, ℕ, suc, ◌+◌, ◌*◌, ◌≤◌, ◌<◌}
use Rattle.std.proofs.Math.Path.{sym}
use Rattle.std.proofs.Common.{◌∙◌, inl, inr, arith, T_not}
use Rattle.std.proofs.Math.Decide.{dec_le}
use Rattle.std.proofs.Math.Dec.{T}
use Rattle.list_laws.specs.Range.{count, count-sum, count-le, all, all-at, all_of}
use Rattle.list_laws.specs.Tests.{either, neither, decided}
use Rattle.algebra.specs.Field.{Field, ⊕-zero, is_zero, nonzero, is_zero→zero, zero→is_zero, nonzero→ne}
use Rattle.algebra.specs.Vandermonde.{power_sum, Distinct, power-sum-cong}
use Rattle.algebra.specs.Distance.{Near, wrong, errors, erasures, wrong→read, wrong→ne, read→wrong}
use Rattle.algebra.specs.KeyEquation.{eval, dot}
use Rattle.algebra.specs.Erasures.{erase, locator-vanishes}
use Rattle.algebra.specs.Roots.{quotient, few-roots}

module _ (F : Field) where
  open F use {C, zer as 𝟘, add as ◌⊕◌, mul as ◌⊗◌, inv, dec}

  infixl 65 ◌⊕◌
  infixl 70 ◌⊗◌
  -- where b has y's word, c has z's
  errors-le : (n : ℕ) (marked : ℕ → Bool) (y z b c : ℕ → C)
      → ((i : ℕ) → i < n → T (not (marked i)) → b i ≡ y i → c i ≡ z i) → errors F n marked z c ≤ errors F n marked y b
  errors-le n marked y z b c h =
      count-le n (λ i. wrong F (marked i) (z i) (c i)) (λ i. wrong F (marked i) (y i) (b i))
      (λ i l t.
      let read = wrong→read F (marked i) (z i) (c i) t in
      read→wrong F (marked i) (y i) (b i) read (λ e. wrong→ne F (marked i) (z i) (c i) t (h i l read e)))

  -- nearness looks only at the block's places below n, and of the received one only at those that were read
  pub near-cong : {n K limit : ℕ} {X : ℕ → C} {marked : ℕ → Bool} {y z b c : ℕ → C}
      → ((i : ℕ) → i < n → T (not (marked i)) → y i ≡ z i) → ((i : ℕ) → i < n → b i ≡ c i)
      → Near F n K limit X marked y b → Near F n K limit X marked z c
  near-cong {n} {X} {marked} {y} {z} {b} {c} hy hb near = record {
    valid = λ j l. sym (power-sum-cong F n X b c (suc j) hb) ∙ near.valid j l;
    within = omega (arith, near.within, errors-le n marked y z b c (λ i l m e. sym (hb i l) ∙ e ∙ hy i l m));
  }

  -- the word at a marked place is ignored
  pub near-ignores : (n K limit : ℕ) (X : ℕ → C) (marked : ℕ → Bool) (y z b : ℕ → C)
      → ((i : ℕ) → i < n → T (not (marked i)) → y i ≡ z i) → Near F n K limit X marked y b ↔ Near F n K limit X marked z b
  near-ignores n K limit X marked y z b h =
      (near-cong h (λ i l. refl), near-cong (λ i l m. sym (h i l m)) (λ i l. refl))

  -- the places that may be in error: those marked, and those at which the locator P of degree at most t vanishes
  abbrev pub taken : ℕ → (ℕ → C) → (ℕ → C) → (ℕ → Bool) → ℕ → Bool
  taken t P X marked i = marked i || is_zero F (eval F (suc t) P (X i))

  -- the error's value at the locator x: G of degree M vanishes at the taken places, S are the syndromes
  abbrev pub correction : ℕ → (ℕ → C) → (ℕ → C) → C → C
  correction M G S x = dot F M (quotient F (suc M) G x) S 0 ⊗ inv (x ⊗ eval F M (quotient F (suc M) G x) x)

  -- the received y, corrected at the taken places
  abbrev pub candidate : (ℕ → Bool) → ℕ → (ℕ → C) → (ℕ → C) → (ℕ → C) → (ℕ → C) → ℕ → C
  candidate take M G S X y i = cond (take i) (y i ⊕ correction M G S (X i)) (y i)

  pub candidate-corrects : (take : ℕ → Bool) (M : ℕ) (G S X y : ℕ → C) (i : ℕ)
      → candidate take M G S X y i ≡ y i ⊕ cond (take i) (correction M G S (X i)) 𝟘
  candidate-corrects take M G S X y i = by (take i)
    where
      by : (s : Bool) → cond s (y i ⊕ correction M G S (X i)) (y i) ≡ y i ⊕ cond s (correction M G S (X i)) 𝟘
      by true = refl
      by false = sym (⊕-zero F (y i))

  module _ (n K limit : ℕ) (X : ℕ → C) (marked : ℕ → Bool) (y : ℕ → C) where
    module _ (dis : Distinct F n X) (ne : (i : ℕ) → i < n → X i ≢ 𝟘) (limit-le : limit ≤ K)
        (t : ℕ) (t-fits : erasures F n marked + (t + t) ≤ limit) (t-most : limit < erasures F n marked + (t + t) + 2)
        (S : ℕ → C) (S-is : (j : ℕ) → j < K → S j ≡ power_sum F n X y (suc j))
        (P : ℕ → C) (p : ℕ) (p-le : p ≤ t) (P-ne : P p ≢ 𝟘)
        (P-annihilates : (i : ℕ) → i < t → dot F (suc t) P (erase F n marked X S) i ≡ 𝟘) where
      -- e + t at most, so the K syndromes settle the values there
      pub taken-few : count n (taken t P X marked) ≤ erasures F n marked + t
      taken-few =
          omega (
            arith,
            few-roots F n t P X p dis p-le P-ne,
            count-sum n (taken t P X marked) marked (λ i. is_zero F (eval F (suc t) P (X i)))
                (λ i l. either (marked i) (is_zero F (eval F (suc t) P (X i)))),
          )

      module _ (b : ℕ → C) (near : Near F n K limit X marked y b) where
        -- a place that is not taken was read right
        pub untaken : (i : ℕ) → i < n → T (not (taken t P X marked i)) → b i ≡ y i
        untaken i l s = by (neither (marked i) (is_zero F (eval F (suc t) P (X i))) s) (dec (b i) (y i))
          where
            by : T (not (marked i)) × T (nonzero F (eval F (suc t) P (X i))) → Dec (b i ≡ y i) → b i ≡ y i
            by r (yes e) = e
            by r (no h) =
                absurd (nonzero→ne F _ r.1
                (locator-vanishes F n K t X marked y b S P dis ne S-is near.valid (omega arith) (omega (arith, near.within))
                P-annihilates i l (read→wrong F (marked i) (y i) (b i) r.0 h)))

    pub near-decided : (b : ℕ → C) → Dec (Near F n K limit X marked y b)
    near-decided b = by (decided (all K sums)) (dec_le (2 * errors F n marked y b + erasures F n marked) limit)
      where
        sums : ℕ → Bool
        sums j = is_zero F (power_sum F n X b (suc j))

        by : T (all K sums) ⊎ T (not (all K sums)) → Dec (2 * errors F n marked y b + erasures F n marked ≤ limit)
            → Dec (Near F n K limit X marked y b)
        by (inl v) (yes w) = yes (record { valid = λ j l. is_zero→zero F _ (all-at K sums v j l); within = w })
        by (inl v) (no h) = no (λ near. h near.within)
        by (inr v) d = no (λ near. T_not (all K sums) v (all_of K sums (λ j l. zero→is_zero F _ (near.valid j l))))
