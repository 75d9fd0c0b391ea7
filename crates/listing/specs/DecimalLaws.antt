-- What the digits of a number are, without a count of divisions; how many they are; and that none but 0 starts with "0".
-- Assumes nothing.
use Rattle.std.specs.Prelude.{◌≡◌, refl, Bool, true, false, ◌⊎◌, [], ◌∷◌, ◌++◌, ℕ, zero, suc, ◌+◌, ◌/◌, ◌%◌, ◌^◌, ◌≤◌, ◌<◌, ltb, length, get_or}
use Rattle.std.proofs.Common.{sym, ap, ◌∙◌, subst, inl, inr, ⊎_elim, div-lt_iff_lt-mul, le-div_iff_mul-le, le_refl, pow-suc, arith, length-append, lt-ltb, le-ltb, ltb-true, ltb-false}
use Rattle.std.proofs.Math.Nat.{div-lt_self}
use Rattle.std.proofs.Math.ListN.{get_or-append}
use Rattle.listing.specs.Decimal.{digit, decimal_in, decimal}

tenth-less : (n k : ℕ) → 10 ≤ n → n ≤ suc k → n / 10 ≤ k
tenth-less n k h l = omega (arith, div-lt_self {n = n} {k = 10} (omega arith) (omega arith))

small-or-more : (n : ℕ) → (n < 10) ⊎ (10 ≤ n)
small-or-more n = go (ltb n 10) refl
  where
    go : (t : Bool) → ltb n 10 ≡ t → (n < 10) ⊎ (10 ≤ n)
    go true e = inl (ltb-true n 10 e)
    go false e = inr (ltb-false n 10 e)

in_small : (k n : ℕ) → n < 10 → decimal_in k n ≡ digit n ∷ []
unfolding decimal_in
in_small zero n h = refl
in_small (suc k) n h = rw (lt-ltb n 10 h)

in-more : (k n : ℕ) → 10 ≤ n → decimal_in (suc k) n ≡ decimal_in k (n / 10) ++ digit (n % 10) ∷ []
unfolding decimal_in
in-more k n h = rw (le-ltb n 10 h)

in_some : (k n : ℕ) → 0 < length (decimal_in k n)
unfolding decimal_in
in_some zero n = omega arith
in_some (suc k) n =
    ⊎_elim (λ h. omega (arith, ap length (in_small (suc k) n h)))
    (λ h. omega (arith, ap length (in-more k n h), length-append (decimal_in k (n / 10)) (digit (n % 10) ∷ []))) (small-or-more n)

-- more divisions than are needed change nothing
enough : (j k n : ℕ) → n ≤ j → n ≤ k → decimal_in j n ≡ decimal_in k n
enough zero k n a b = in_small zero n (omega arith) ∙ sym (in_small k n (omega arith))
enough (suc j) zero n a b = in_small (suc j) n (omega arith) ∙ sym (in_small zero n (omega arith))
enough (suc j) (suc k) n a b = go (enough j k (n / 10)) (small-or-more n)
  where
    go : (n / 10 ≤ j → n / 10 ≤ k → decimal_in j (n / 10) ≡ decimal_in k (n / 10)) → (n < 10) ⊎ (10 ≤ n)
        → decimal_in (suc j) n ≡ decimal_in (suc k) n
    go rec (inl h) = in_small (suc j) n h ∙ sym (in_small (suc k) n h)
    go rec (inr h) =
        in-more j n h
        ∙ ap (λ l. l ++ digit (n % 10) ∷ []) (rec (tenth-less n j h a) (tenth-less n k h b))
        ∙ sym (in-more k n h)

pub decimal-small : (n : ℕ) → n < 10 → decimal n ≡ digit n ∷ []
unfolding decimal
decimal-small n h = in_small n n h

pub decimal-more : (n : ℕ) → 10 ≤ n → decimal n ≡ decimal (n / 10) ++ digit (n % 10) ∷ []
unfolding decimal
decimal-more zero h = absurd (omega arith)
decimal-more (suc n) h =
    in-more n (suc n) h
    ∙ ap (λ l. l ++ digit (suc n % 10) ∷ [])
    (enough n (suc n / 10) (suc n / 10) (tenth-less (suc n) n h (le_refl (suc n))) (le_refl (suc n / 10)))

pub length-small : (n : ℕ) → n < 10 → length (decimal n) ≡ 1
length-small n h = ap length (decimal-small n h)

pub length_more : (n : ℕ) → 10 ≤ n → length (decimal n) ≡ length (decimal (n / 10)) + 1
length_more n h = ap length (decimal-more n h) ∙ length-append (decimal (n / 10)) (digit (n % 10) ∷ [])

-- a number below 10^k has at most k digits
pub digits-most : (k n : ℕ) → n < 10 ^ suc k → length (decimal n) ≤ suc k
digits-most zero n h = omega (arith, length-small n h)
digits-most (suc k) n h = go (digits-most k (n / 10)) (small-or-more n)
  where
    go : (n / 10 < 10 ^ suc k → length (decimal (n / 10)) ≤ suc k) → (n < 10) ⊎ (10 ≤ n) → length (decimal n) ≤ suc (suc k)
    go rec (inl l) = omega (arith, length-small n l)
    go rec (inr l) =
        let tenth = (div-lt_iff_lt-mul {k = 10} {x = n} {y = 10 ^ suc k} (omega arith)).1 (rw (sym (pow-suc 10 (suc k))) h) in
        omega (arith, length_more n l, rec tenth)

pub digits-some : (n : ℕ) → 1 ≤ length (decimal n)
digits-some n = ⊎_elim (λ h. omega (arith, length-small n h)) (λ h. omega (arith, length_more n h)) (small-or-more n)

-- the first digit of a number but 0 isn't "0"
leading : (k n : ℕ) → 0 < n → n ≤ k → 48 < get_or (decimal_in k n) 0 0
unfolding digit
leading zero n h l = absurd (omega arith)
leading (suc k) n h l = go (leading k (n / 10)) (small-or-more n)
  where
    go : (0 < n / 10 → n / 10 ≤ k → 48 < get_or (decimal_in k (n / 10)) 0 0) → (n < 10) ⊎ (10 ≤ n) → 48 < get_or (decimal_in (suc k) n) 0 0
    go rec (inl s) = rw (in_small (suc k) n s) (omega arith)
    go rec (inr m) =
        subst (λ x. 48 < x)
        (sym (ap (λ d. get_or d 0 0) (in-more k n m) ∙ get_or-append (decimal_in k (n / 10)) (digit (n % 10) ∷ []) 0 0 (in_some k (n / 10))))
        (rec ((le-div_iff_mul-le {k = 10} {x = 1} {y = n} (omega arith)).1 (omega arith)) (tenth-less n k m l))

pub no-leading-zero : (n : ℕ) → 0 < n → 48 < get_or (decimal n) 0 0
unfolding decimal
no-leading-zero n h = leading n n h (le_refl n)
