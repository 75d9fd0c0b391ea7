-- A search over a range of numbers is the search from its first number on.
-- Assumes nothing.
use Rattle.std.specs.Prelude.{◌≡◌, refl, Bool, true, false, cond, ◌||◌, T, ℕ, zero, suc, ◌+◌, ◌<◌}
use Rattle.std.specs.List.{range_with_len, list_any, list_all, find}
use Rattle.std.specs.declared.option.Option.{Option}
use Rattle.std.specs.declared.option.Option.TheVariants.{None, Some}
use Rattle.std.proofs.Math.Option.{some}
use Rattle.std.specs.Option.{option_map}
use Rattle.std.proofs.Common.{subst, arith}
use Rattle.list_laws.specs.Tests.{both, both-parts, same_test}
use Rattle.list_laws.specs.Range.{all, all-at, all_of}
use Rattle.list_laws.specs.Search.{first_from, found}
use Rattle.orientation.specs.Position.{position_given}

pub any-range : (test : ℕ → Bool) (i n : ℕ) → list_any test (range_with_len i n) ≡ found (first_from test i n)
unfolding first_from
any-range test i zero = refl
any-range test i (suc n) = go (test i) (any-range test (i + 1) n)
  where
    go : (b : Bool) → list_any test (range_with_len (i + 1) n) ≡ found (first_from test (i + 1) n)
        → b || list_any test (range_with_len (i + 1) n) ≡ found (cond b (some i) (first_from test (i + 1) n))
    go true e = refl
    go false e = e

pub find-range : (test : ℕ → Bool) (i n : ℕ) → find test (range_with_len i n) ≡ position_given (first_from test i n)
unfolding first_from
find-range test i zero = refl
find-range test i (suc n) = go (test i) (find-range test (i + 1) n)
  where
    go : (b : Bool) → find test (range_with_len (i + 1) n) ≡ position_given (first_from test (i + 1) n)
        → cond b (Some i) (find test (range_with_len (i + 1) n)) ≡ position_given (cond b (some i) (first_from test (i + 1) n))
    go true e = refl
    go false e = e

-- the item found is a number as it is
pub same : (o : Option ℕ) → o ≡ option_map (λ x. x) o
same None = refl
same (Some x) = refl

-- all of a range, by its numbers
range-at : (test : ℕ → Bool) (a n : ℕ) → T (list_all test (range_with_len a n)) → (k : ℕ) → k < n → T (test (a + k))
range-at test a zero t k h = absurd (omega arith)
range-at test a (suc n) t zero h = subst (λ i. T (test i)) (let z : a ≡ a + 0 = omega arith in z) (both-parts (test a) _ t).0
range-at test a (suc n) t (suc k) h =
    subst (λ i. T (test i)) (let z : a + 1 + k ≡ a + suc k = omega arith in z) (range-at test (a + 1) n (both-parts (test a) _ t).1 k (omega arith))

range-of : (test : ℕ → Bool) (a n : ℕ) → ((k : ℕ) → k < n → T (test (a + k))) → T (list_all test (range_with_len a n))
range-of test a zero f = tt
range-of test a (suc n) f =
    both (test a) _ (subst (λ i. T (test i)) (let z : a + 0 ≡ a = omega arith in z) (f 0 (omega arith)))
    (range-of test (a + 1) n (λ k h. subst (λ i. T (test i)) (let z : a + suc k ≡ a + 1 + k = omega arith in z) (f (suc k) (omega arith))))

pub all-range : (test : ℕ → Bool) (n : ℕ) → list_all test (range_with_len 0 n) ≡ all n test
all-range test n =
    same_test _ _
    (λ t. all_of n test (λ k h. subst (λ i. T (test i)) (let z : 0 + k ≡ k = omega arith in z) (range-at test 0 n t k h)))
    (λ t. range-of test 0 n (λ k h. subst (λ i. T (test i)) (let z : k ≡ 0 + k = omega arith in z) (all-at n test t k h)))
