-- Counts and tests over a list, as std's iterators give them, and over the numbers below its length.
-- Assumes nothing.
use Rattle.std.proofs.Common.{arith, ap, ◌∙◌, min, ◌≤◌, ◌≡◌, refl, sym, Bool, true, false, cond, T, ℕ, zero, suc, ◌+◌, ◌<◌, suc-le-suc, zero-lt-suc, le_of_suc-le-suc, not-suc-le-zero, List, [], ◌∷◌, length, get_or}
use Rattle.std.specs.List.{count_by, list_all, zip}
use Rattle.std.proofs.lemmas.Slice.Zip.{get_or-zip, length-zip}
use Rattle.std.proofs.lemmas.List.Recursion.{is_count_by}
use Rattle.list_laws.specs.Tests.{both, both-parts, same_test}
use Rattle.list_laws.specs.Range.{one, count, count_same, all, all-at, all_of}

one-more : (b : Bool) (n : ℕ) → one b + n ≡ cond b (1 + n) n
one-more true n = refl
one-more false n = omega arith

pub count-listed : (p : ℕ → Bool) (xs : List ℕ) → count_by p xs ≡ count (length xs) (λ i. p (get_or xs i 0))
unfolding count
count-listed p xs =
    sym
    (is_count_by (λ l. count (length l) (λ i. p (get_or l i 0))) p refl
    (λ x l. one-more (p x) (count (length l) (λ i. p (get_or l i 0)))) xs)

pub count-zipped : (p : ℕ × ℕ → Bool) (xs ys : List ℕ) → length xs ≤ length ys
    → count_by p (zip xs ys) ≡ count (length xs) (λ i. p (get_or xs i 0, get_or ys i 0))
unfolding count
count-zipped p xs ys h =
    sym
    (is_count_by (λ l. count (length l) (λ i. p (get_or l i (0, 0)))) p refl
    (λ x l. one-more (p x) (count (length l) (λ i. p (get_or l i (0, 0))))) (zip xs ys))
    ∙ ap (λ n. count n (λ i. p (get_or (zip xs ys) i (0, 0)))) long
    ∙ count_same (length xs) _ _ (λ i k. ap p (get_or-zip xs ys i (0, 0) k (omega arith)))
  where
    long : length (zip xs ys) ≡ length xs
    long = length-zip xs ys ∙ min_is
      where
        min_is : min (length xs) (length ys) ≡ length xs
        min_is = omega arith

-- a list of words that pass the test
listed-at : (p : ℕ → Bool) (xs : List ℕ) → T (list_all p xs) → (i : ℕ) → i < length xs → T (p (get_or xs i 0))
listed-at p [] t i l = absurd (not-suc-le-zero l)
listed-at p (x ∷ xs) t zero l = (both-parts (p x) (list_all p xs) t).0
listed-at p (x ∷ xs) t (suc i) l = listed-at p xs (both-parts (p x) (list_all p xs) t).1 i (le_of_suc-le-suc l)

listed-of : (p : ℕ → Bool) (xs : List ℕ) → ((i : ℕ) → i < length xs → T (p (get_or xs i 0))) → T (list_all p xs)
listed-of p [] h = tt
listed-of p (x ∷ xs) h = both (p x) (list_all p xs) (h zero (zero-lt-suc _)) (listed-of p xs (λ i l. h (suc i) (suc-le-suc l)))

pub all-listed : (p : ℕ → Bool) (xs : List ℕ) → list_all p xs ≡ all (length xs) (λ i. p (get_or xs i 0))
all-listed p xs =
    same_test _ _ (λ t. all_of (length xs) (λ i. p (get_or xs i 0)) (listed-at p xs t))
    (λ t. listed-of p xs (all-at (length xs) (λ i. p (get_or xs i 0)) t))
