-- Valid blocks, the blocks near a received one, and why at most one block is near: two valid blocks that differ in at most K places
-- are equal. A place is marked where no word was read; r counts the wrong words among those that were, e the marked places.
-- Assumes nothing.
use Rattle.std.specs.Prelude.{◌≡◌, ◌≢◌, ◌↔◌, ◌⊎◌, Bool, true, false, not, ◌&&◌, ◌||◌, ℕ, suc, ◌+◌, ◌*◌, ◌≤◌, ◌<◌, T}
use Rattle.std.proofs.Common.{sym, ap, ◌∙◌, inl, inr, le_trans, arith}
use Rattle.list_laws.specs.Range.{count, count-sum, count_same}
use Rattle.list_laws.specs.Tests.{both, both-parts, either}
use Rattle.algebra.specs.Field.{
  Field,
  ring,
  ⊕-zero,
  ⊗-left-zero,
  equal-of-zero,
  zero-of-equal,
  zero-of-product,
  nonzero,
  differ→ne,
  ne→differ,
}
use Rattle.algebra.specs.Sums.{weight, weight-le}
use Rattle.algebra.specs.Vandermonde.{power_sum, Distinct, vandermonde, power-sum-add, power-sum-next}

module _ (F : Field) where
  open F use {C, zer as 𝟘, add as ◌⊕◌, mul as ◌⊗◌, dec}

  infixl 65 ◌⊕◌
  infixl 70 ◌⊗◌
  -- the power sums 1 to K are zero
  abbrev pub Valid : ℕ → (ℕ → C) → ℕ → (ℕ → C) → Type 0
  Valid n X K w = (j : ℕ) → j < K → power_sum F n X w (suc j) ≡ 𝟘

  -- a word was read, and it is not b's
  abbrev pub wrong : Bool → C → C → Bool
  wrong mark y b = not mark && nonzero F (b ⊕ y)

  pub wrong→read : (mark : Bool) (y b : C) → T (wrong mark y b) → T (not mark)
  wrong→read mark y b t = (both-parts (not mark) (nonzero F (b ⊕ y)) t).0

  pub wrong→ne : (mark : Bool) (y b : C) → T (wrong mark y b) → b ≢ y
  wrong→ne mark y b t = differ→ne F b y (both-parts (not mark) (nonzero F (b ⊕ y)) t).1

  pub read→wrong : (mark : Bool) (y b : C) → T (not mark) → b ≢ y → T (wrong mark y b)
  read→wrong mark y b t ne = both (not mark) (nonzero F (b ⊕ y)) t (ne→differ F b y ne)

  -- r
  abbrev pub errors : ℕ → (ℕ → Bool) → (ℕ → C) → (ℕ → C) → ℕ
  errors n marked y b = count n (λ i. wrong (marked i) (y i) (b i))

  -- e
  abbrev pub erasures : ℕ → (ℕ → Bool) → ℕ
  erasures n marked = count n marked

  -- b is valid and lies within the limit of the received y
  pub record Near (n K limit : ℕ) (X : ℕ → C) (marked : ℕ → Bool) (y b : ℕ → C) : Type 0 where
    pub valid : Valid n X K b
    pub within : 2 * errors n marked y b + erasures n marked ≤ limit

  -- y with the corrections E is valid where the power sums of E are those of y: a candidate is checked by its corrections alone
  pub valid-by-corrections : (n K : ℕ) (X y E : ℕ → C)
      → Valid n X K (λ i. y i ⊕ E i) ↔ ((j : ℕ) → j < K → power_sum F n X E (suc j) ≡ power_sum F n X y (suc j))
  valid-by-corrections n K X y E = (
    λ v j l. sym (equal-of-zero F _ _ (sym (power-sum-add F n X y E (suc j)) ∙ v j l)),
    λ h j l. power-sum-add F n X y E (suc j) ∙ zero-of-equal F (sym (h j l)),
  )

  pub errors-by-corrections : (n : ℕ) (marked : ℕ → Bool) (y E : ℕ → C)
      → errors n marked y (λ i. y i ⊕ E i) ≡ count n (λ i. not (marked i) && nonzero F (E i))
  errors-by-corrections n marked y E =
      count_same n _ _ (λ i l. ap (λ x. not (marked i) && nonzero F x) (let e : (y i ⊕ E i) ⊕ y i ≡ E i = simp ring in e))

  -- where two blocks differ, the place is marked or one of the two is wrong
  differ-cases : (mark : Bool) (y a b : C) → a ≢ b → Dec (a ≡ y) → T (mark || wrong mark y a) ⊎ T (wrong mark y b)
  differ-cases true y a b ne d = inl tt
  differ-cases false y a b ne (yes e) = inr (read→wrong false y b tt (λ f. ne (e ∙ sym f)))
  differ-cases false y a b ne (no h) = inl (read→wrong false y a tt h)

  differences-le : (n : ℕ) (marked : ℕ → Bool) (y a b : ℕ → C)
      → weight F n (λ i. a i ⊕ b i) ≤ erasures n marked + errors n marked y a + errors n marked y b
  differences-le n marked y a b =
      omega (
        arith,
        count-sum n (λ i. nonzero F (a i ⊕ b i)) (λ i. marked i || wrong (marked i) (y i) (a i)) (λ i. wrong (marked i) (y i) (b i))
            (λ i l t. differ-cases (marked i) (y i) (a i) (b i) (differ→ne F (a i) (b i) t) (dec (a i) (y i))),
        count-sum n (λ i. marked i || wrong (marked i) (y i) (a i)) marked (λ i. wrong (marked i) (y i) (a i))
            (λ i l. either (marked i) (wrong (marked i) (y i) (a i))),
      )

  module _ (n K : ℕ) (X : ℕ → C) (dis : Distinct F n X) (ne : (i : ℕ) → i < n → X i ≢ 𝟘) where
    -- two valid blocks that differ differ in more than K places
    pub min-distance : (a b : ℕ → C) → Valid n X K a → Valid n X K b → weight F n (λ i. a i ⊕ b i) ≤ K
        → (i : ℕ) → i < n → a i ≡ b i
    min-distance a b va vb w i l =
        equal-of-zero F _ _
        (zero-of-product F _ (X i) (ne i l)
        (vandermonde F n K X (λ i. (a i ⊕ b i) ⊗ X i) dis
        (le_trans (weight-le F n (λ i. a i ⊕ b i) (λ i. (a i ⊕ b i) ⊗ X i) (λ i l. ⊗-left-zero F _)) w)
        (λ j k.
        sym (power-sum-next F n X (λ i. a i ⊕ b i) j)
        ∙ power-sum-add F n X a b (suc j)
        ∙ rw (va j k, vb j k) (⊕-zero F 𝟘))
        i l))

    pub unique : (limit : ℕ) (marked : ℕ → Bool) (y a b : ℕ → C) → limit ≤ K
        → Near n K limit X marked y a → Near n K limit X marked y b → (i : ℕ) → i < n → a i ≡ b i
    unique limit marked y a b l na nb =
        min-distance a b na.valid nb.valid (omega (arith, na.within, nb.within, differences-le n marked y a b))
