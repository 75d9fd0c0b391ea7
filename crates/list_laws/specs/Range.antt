-- The numbers below n: how many pass a test, and whether all do.
-- Assumes nothing.
use Rattle.std.specs.Prelude.{◌≡◌, refl, Bool, true, false, not, ◌&&◌, ◌⊎◌, ℕ, zero, suc, ◌+◌, ◌≤◌, ◌<◌, T}
use Rattle.std.proofs.Common.{ap, ◌∙◌, inl, inr, suc-le-suc, zero-lt-suc, le_of_suc-le-suc, not-suc-le-zero, le_refl, eq-or-lt_of_le, add-one, arith}
use Rattle.list_laws.specs.Tests.{both, both-parts, false_of}

-- what holds below n, and at n, holds below n + 1
pub up_to : (P : ℕ → Type 0) (n : ℕ) → ((i : ℕ) → i < n → P i) → P n → (i : ℕ) → i < suc n → P i
up_to P n h e i l = go (eq-or-lt_of_le (le_of_suc-le-suc l))
  where
    go : (i ≡ n) ⊎ (i < n) → P i
    go (inl p) = rw p e
    go (inr k) = h i k

abbrev pub one : Bool → ℕ
one true = 1
one false = 0

pub one-yes : (b : Bool) → T b → one b ≡ 1
one-yes true t = refl
one-yes false t = absurd t

pub one-no : (b : Bool) → T (not b) → one b ≡ 0
one-no true t = absurd t
one-no false t = refl

-- how many of the numbers below n pass the test
unfoldable pub count : ℕ → (ℕ → Bool) → ℕ
count zero p = 0
count (suc n) p = one (p zero) + count n (λ i. p (suc i))

pub count_none : (p : ℕ → Bool) → count 0 p ≡ 0
unfolding count
count_none p = refl

pub count-first : (n : ℕ) (p : ℕ → Bool) → count (suc n) p ≡ one (p zero) + count n (λ i. p (suc i))
unfolding count
count-first n p = refl

pub count-suc : (n : ℕ) (p : ℕ → Bool) → count (suc n) p ≡ count n p + one (p n)
unfolding count
count-suc zero p = omega arith
count-suc (suc n) p = omega (arith, count-suc n (λ i. p (suc i)))

pub count-last : (n : ℕ) (p : ℕ → Bool) → count (n + 1) p ≡ count n p + one (p n)
count-last n p = ap (λ m. count m p) (add-one n) ∙ count-suc n p

one-le : (a b : Bool) → (T a → T b) → one a ≤ one b
one-le true true h = le_refl 1
one-le true false h = absurd (h tt)
one-le false true h = omega arith
one-le false false h = le_refl 0

pub count-le : (n : ℕ) (p q : ℕ → Bool) → ((i : ℕ) → i < n → T (p i) → T (q i)) → count n p ≤ count n q
unfolding count
count-le zero p q h = le_refl 0
count-le (suc n) p q h =
    omega (arith, one-le (p zero) (q zero) (h zero (zero-lt-suc n)), count-le n (λ i. p (suc i)) (λ i. q (suc i)) (λ i l. h (suc i) (suc-le-suc l)))

pub count_same : (n : ℕ) (p q : ℕ → Bool) → ((i : ℕ) → i < n → p i ≡ q i) → count n p ≡ count n q
unfolding count
count_same zero p q h = refl
count_same (suc n) p q h =
    ap (λ b. one b + count n (λ i. p (suc i))) (h zero (zero-lt-suc n))
    ∙ ap (λ m. one (q zero) + m) (count_same n (λ i. p (suc i)) (λ i. q (suc i)) (λ i l. h (suc i) (suc-le-suc l)))

one-sum : (a b c : Bool) → (T a → T b ⊎ T c) → one a ≤ one b + one c
one-sum true true true h = omega arith
one-sum true true false h = omega arith
one-sum true false true h = omega arith
one-sum true false false h = absurd (no-side (h tt))
  where
    no-side : T false ⊎ T false → ⊥
    no-side (inl t) = t
    no-side (inr t) = t
one-sum false b c h = omega arith

-- what passes a test passes one of two others
pub count-sum : (n : ℕ) (p q r : ℕ → Bool) → ((i : ℕ) → i < n → T (p i) → T (q i) ⊎ T (r i)) → count n p ≤ count n q + count n r
unfolding count
count-sum zero p q r h = omega arith
count-sum (suc n) p q r h =
    omega (
      arith,
      one-sum (p zero) (q zero) (r zero) (h zero (zero-lt-suc n)),
      count-sum n (λ i. p (suc i)) (λ i. q (suc i)) (λ i. r (suc i)) (λ i l. h (suc i) (suc-le-suc l)),
    )

pub one-most : (b : Bool) → one b ≤ 1
one-most true = le_refl 1
one-most false = omega arith

pub count_most : (n : ℕ) (p : ℕ → Bool) → count n p ≤ n
unfolding count
count_most zero p = le_refl 0
count_most (suc n) p = omega (arith, one-most (p zero), count_most n (λ i. p (suc i)))

one-not : (b : Bool) → one b + one (not b) ≡ 1
one-not true = refl
one-not false = refl

-- each passes the test or its negation
pub count-not : (n : ℕ) (p : ℕ → Bool) → count n p + count n (λ i. not (p i)) ≡ n
unfolding count
count-not zero p = refl
count-not (suc n) p = omega (arith, one-not (p zero), count-not n (λ i. p (suc i)))

-- whether all of the numbers below n pass the test
unfoldable pub all : ℕ → (ℕ → Bool) → Bool
all zero p = true
all (suc n) p = all n p && p n

pub all-at : (n : ℕ) (p : ℕ → Bool) → T (all n p) → (i : ℕ) → i < n → T (p i)
unfolding all
all-at zero p t i l = absurd (not-suc-le-zero l)
all-at (suc n) p t i l = let parts = both-parts (all n p) (p n) t in up_to (λ k. T (p k)) n (all-at n p parts.0) parts.1 i l

pub all_of : (n : ℕ) (p : ℕ → Bool) → ((i : ℕ) → i < n → T (p i)) → T (all n p)
unfolding all
all_of zero p h = tt
all_of (suc n) p h = both (all n p) (p n) (all_of n p (λ i l. h i (omega arith))) (h n (le_refl (suc n)))

-- one turn more of a count, and a test of all that fails at one place: what loops meet

module _ (n : ℕ) (p : ℕ → Bool) where
  pub count_yes : {e : ℕ} → e ≡ count n p → p n ≡ true → e + 1 ≡ count (n + 1) p
  count_yes h t = omega (arith, count-last n p, ap one t)

  pub count_no : {e : ℕ} → e ≡ count n p → p n ≡ false → e ≡ count (n + 1) p
  count_no h t = omega (arith, count-last n p, ap one t)

  pub all_but : (i : ℕ) → i < n → p i ≡ false → all n p ≡ false
  all_but i l e = false_of (all n p) (λ t. rw e at (all-at n p t i l))
