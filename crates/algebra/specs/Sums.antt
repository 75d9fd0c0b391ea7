-- Sums over the numbers below n, powers, and how many of the first n values are not zero.
-- Blocks, polynomials and sequences are functions from the numbers; what lies at or past a bound does not matter.
-- Assumes nothing.
use Rattle.std.specs.Prelude.{◌≡◌, ◌≢◌}
use Rattle.std.proofs.Math.Path.{refl, sym, ap, ap₂}
use Rattle.std.proofs.Common.{◌∙◌, zero-add, suc-add, mul_comm, mul-zero, mul-suc, zero-lt-suc, le_of_suc-le-suc, not-suc-le-zero, arith}
use Prim.Native.Nat.{ℕ, zero, suc, ◌+◌, ◌*◌, ◌≤◌, ◌<◌, suc-le-suc}
use Rattle.std.proofs.Math.Nat.{add_comm}
use Rattle.list_laws.specs.Range.{count, count-le}
use Rattle.algebra.specs.Field.{
  Field,
  ring,
  ⊕-assoc,
  ⊕-comm,
  ⊕-zero,
  zero-⊕,
  ⊗-assoc,
  one-⊗,
  ⊗-⊕,
  ⊗-zero,
  ⊗-ne,
  nonzero,
  nonzero→ne,
  ne→nonzero,
}

module _ (F : Field) where
  open F use {C, zer as 𝟘, one as 𝟙, add as ◌⊕◌, mul as ◌⊗◌}

  infixl 65 ◌⊕◌
  infixl 70 ◌⊗◌
  unfoldable pub sum : ℕ → (ℕ → C) → C
  sum zero f = 𝟘
  sum (suc n) f = f zero ⊕ sum n (λ i. f (suc i))

  pub sum-none : (f : ℕ → C) → sum zero f ≡ 𝟘
  unfolding sum
  sum-none f = refl

  pub sum_first : (n : ℕ) (f : ℕ → C) → sum (suc n) f ≡ f zero ⊕ sum n (λ i. f (suc i))
  unfolding sum
  sum_first n f = refl

  pub sum-last : (n : ℕ) (f : ℕ → C) → sum (suc n) f ≡ sum n f ⊕ f n
  unfolding sum
  sum-last zero f = ⊕-comm F (f zero) 𝟘
  sum-last (suc n) f = ap (λ x. f zero ⊕ x) (sum-last n (λ i. f (suc i))) ∙ sym (⊕-assoc F _ _ _)

  pub sum-cong : (n : ℕ) (f g : ℕ → C) → ((i : ℕ) → i < n → f i ≡ g i) → sum n f ≡ sum n g
  unfolding sum
  sum-cong zero f g h = refl
  sum-cong (suc n) f g h =
      ap₂ ◌⊕◌ (h zero (zero-lt-suc n)) (sum-cong n (λ i. f (suc i)) (λ i. g (suc i)) (λ i l. h (suc i) (suc-le-suc l)))

  pub sum-zero : (n : ℕ) (f : ℕ → C) → ((i : ℕ) → i < n → f i ≡ 𝟘) → sum n f ≡ 𝟘
  unfolding sum
  sum-zero zero f h = refl
  sum-zero (suc n) f h =
      ap₂ ◌⊕◌ (h zero (zero-lt-suc n)) (sum-zero n (λ i. f (suc i)) (λ i l. h (suc i) (suc-le-suc l))) ∙ ⊕-zero F 𝟘

  pub sum-add : (n : ℕ) (f g : ℕ → C) → sum n (λ i. f i ⊕ g i) ≡ sum n f ⊕ sum n g
  unfolding sum
  sum-add zero f g = sym (⊕-zero F 𝟘)
  sum-add (suc n) f g = ap (λ x. (f zero ⊕ g zero) ⊕ x) (sum-add n (λ i. f (suc i)) (λ i. g (suc i))) ∙ simp ring

  pub sum-mul : (n : ℕ) (a : C) (f : ℕ → C) → sum n (λ i. a ⊗ f i) ≡ a ⊗ sum n f
  unfolding sum
  sum-mul zero a f = sym (⊗-zero F a)
  sum-mul (suc n) a f = ap (λ x. a ⊗ f zero ⊕ x) (sum-mul n a (λ i. f (suc i))) ∙ sym (⊗-⊕ F a _ _)

  pub sum-swap : (n m : ℕ) (f : ℕ → ℕ → C) → sum n (λ i. sum m (λ j. f i j)) ≡ sum m (λ j. sum n (λ i. f i j))
  unfolding sum
  sum-swap zero m f = sym (sum-zero m (λ j. 𝟘) (λ j l. refl))
  sum-swap (suc n) m f =
      ap (λ x. sum m (f zero) ⊕ x) (sum-swap n m (λ i. f (suc i))) ∙ sym (sum-add m (f zero) (λ j. sum n (λ i. f (suc i) j)))

  -- only one term is not zero
  pub sum-single : (n k : ℕ) (f : ℕ → C) → k < n → ((i : ℕ) → i < n → i ≢ k → f i ≡ 𝟘) → sum n f ≡ f k
  unfolding sum
  sum-single zero k f l h = absurd (not-suc-le-zero l)
  sum-single (suc n) zero f l h =
      ap (λ x. f zero ⊕ x) (sum-zero n (λ i. f (suc i)) (λ i m. h (suc i) (suc-le-suc m) (omega arith))) ∙ ⊕-zero F _
  sum-single (suc n) (suc k) f l h =
      ap₂ ◌⊕◌ (h zero (zero-lt-suc n) (omega arith))
      (sum-single n k (λ i. f (suc i)) (le_of_suc-le-suc l) (λ i m ne. h (suc i) (suc-le-suc m) (omega arith)))
      ∙ zero-⊕ F _

  -- the terms past the first m are zero: a loop over m is enough
  pub sum-short : (m n : ℕ) (f : ℕ → C) → m ≤ n → ((i : ℕ) → m ≤ i → i < n → f i ≡ 𝟘) → sum n f ≡ sum m f
  unfolding sum
  sum-short zero n f l h = sum-zero n f (λ i k. h i (omega arith) k)
  sum-short (suc m) zero f l h = absurd (not-suc-le-zero l)
  sum-short (suc m) (suc n) f l h =
      ap (λ x. f zero ⊕ x)
      (sum-short m n (λ i. f (suc i)) (le_of_suc-le-suc l) (λ i k p. h (suc i) (suc-le-suc k) (suc-le-suc p)))

  unfoldable pub pow : C → ℕ → C
  pow x zero = 𝟙
  pow x (suc n) = x ⊗ pow x n

  pub pow-zero : (x : C) → pow x zero ≡ 𝟙
  unfolding pow
  pow-zero x = refl

  pub pow-suc : (x : C) (n : ℕ) → pow x (suc n) ≡ x ⊗ pow x n
  unfolding pow
  pow-suc x n = refl

  pub pow-add : (x : C) (m n : ℕ) → pow x (m + n) ≡ pow x m ⊗ pow x n
  unfolding pow
  pow-add x zero n = ap (pow x) (zero-add n) ∙ sym (one-⊗ F (pow x n))
  pow-add x (suc m) n = ap (pow x) (suc-add m n) ∙ ap (λ y. x ⊗ y) (pow-add x m n) ∙ sym (⊗-assoc F _ _ _)

  pub pow-mul : (x : C) (m n : ℕ) → pow x (m * n) ≡ pow (pow x m) n
  unfolding pow
  pow-mul x m zero = ap (pow x) (mul-zero m)
  pow-mul x m (suc n) = ap (pow x) (mul-suc m n ∙ add_comm (m * n) m) ∙ pow-add x m (m * n) ∙ ap (λ y. pow x m ⊗ y) (pow-mul x m n)

  pub pow-swap : (x : C) (m n : ℕ) → pow (pow x m) n ≡ pow (pow x n) m
  pow-swap x m n = sym (pow-mul x m n) ∙ ap (pow x) (mul_comm m n) ∙ pow-mul x n m

  pub pow-ne : (x : C) (n : ℕ) → x ≢ 𝟘 → pow x n ≢ 𝟘
  unfolding pow
  pow-ne x zero h = F.one-ne
  pow-ne x (suc n) h = ⊗-ne F x (pow x n) h (pow-ne x n h)

  abbrev pub weight : ℕ → (ℕ → C) → ℕ
  weight n c = count n (λ i. nonzero F (c i))

  pub weight-le : (n : ℕ) (c d : ℕ → C) → ((i : ℕ) → i < n → c i ≡ 𝟘 → d i ≡ 𝟘) → weight n d ≤ weight n c
  weight-le n c d h =
      count-le n (λ i. nonzero F (d i)) (λ i. nonzero F (c i))
      (λ i l t. ne→nonzero F (c i) (λ e. nonzero→ne F (d i) t (h i l e)))
