-- Runs of 1s: the fill of the last word and what the stop rule looks for (document 01, "Stuffing" and step 4 of "How a grid is read").
-- Assumes nothing.
use Rattle.std.specs.Prelude.{◌≡◌, refl, Bool, true, false, ◌&&◌, List, [], ◌∷◌, ◌++◌, ℕ, zero, suc, ◌+◌, ◌*◌, ◌-◌, ◌^◌, ◌<◌, T, eqb, length, replicate}
use Rattle.std.proofs.Common.{sym, ap, ap₂, ◌∙◌, mul_assoc, arith, eqb→eq, eq-eqb}
use Rattle.std.proofs.Math.Nat.{pow-succ'}
use Rattle.std.proofs.lemmas.List.{length-replicate}
use Rattle.list_laws.specs.Tests.{both-parts, same_test, false_of, holds}
use Rattle.stream.specs.Below.{Bits}
use Rattle.stream.specs.Bits.{bits, value, all_ones, length-bits, value-of-bits, bits_of_value}

pub and-false : (a : Bool) → (a && false) ≡ false
and-false true = refl
and-false false = refl

pub and_assoc : (a b c : Bool) → (a && b && c) ≡ (a && (b && c))
and_assoc true b c = refl
and_assoc false b c = refl

pub ones-append : (p q : List ℕ) → all_ones (p ++ q) ≡ (all_ones p && all_ones q)
unfolding all_ones
ones-append [] q = refl
ones-append (b ∷ p) q = ap (λ t. eqb b 1 && t) (ones-append p q) ∙ sym (and_assoc (eqb b 1) (all_ones p) (all_ones q))

pub ones-are : (n : ℕ) → all_ones (replicate n 1) ≡ true
unfolding all_ones
ones-are zero = refl
ones-are (suc n) = ones-are n

pub are-ones : (l : List ℕ) → T (all_ones l) → l ≡ replicate (length l) 1
unfolding all_ones
are-ones [] t = refl
are-ones (b ∷ l) t = let h = both-parts (eqb b 1) (all_ones l) t in ap₂ (λ x y. x ∷ y) (eqb→eq b 1 h.0) (are-ones l h.1)

ones-say : (n v : ℕ) → suc (value v (replicate n 1)) ≡ suc v * 2 ^ n
unfolding value
ones-say zero v = omega arith
ones-say (suc n) v =
    let twice : suc (v * 2 + 1) ≡ suc v * 2 = omega arith in
    ones-say n (v * 2 + 1) ∙ omega (arith, ap (λ x. x * 2 ^ n) twice, mul_assoc (suc v) 2 (2 ^ n), ap (λ p. suc v * p) (pow-succ' 2 n))

pub value-of-ones : (n : ℕ) → value 0 (replicate n 1) ≡ 2 ^ n - 1
value-of-ones n = omega (arith, ones-say n 0)

ones-are-bits : (n : ℕ) → Bits (replicate n 1)
ones-are-bits zero = tt
ones-are-bits (suc n) = (omega arith, ones-are-bits n)

-- a number below the largest of its bits has a 0
pub bits-have-zero : (n x : ℕ) → x < 2 ^ n - 1 → all_ones (bits n x) ≡ false
bits-have-zero n x h = false_of (all_ones (bits n x)) λ t.
    let ones : bits n x ≡ replicate n 1 = are-ones (bits n x) t ∙ ap (λ k. replicate k 1) (length-bits n x) in
    omega (arith, ap (value 0) ones ∙ value-of-ones n, value-of-bits n x (omega arith))

-- all bits are 1s exactly when they say the largest number
pub ones-by-value : (l : List ℕ) → Bits l → all_ones l ≡ eqb (value 0 l) (2 ^ length l - 1)
ones-by-value l x =
    same_test (all_ones l) (eqb (value 0 l) (2 ^ length l - 1))
    (λ t. holds (eq-eqb _ _ (ap (value 0) (are-ones l t) ∙ value-of-ones n)))
    (λ t. holds (ap all_ones (same (eqb→eq (value 0 l) (2 ^ n - 1) t)) ∙ ones-are n))
  where
    n : ℕ
    n = length l

    ones : bits n (2 ^ n - 1) ≡ replicate n 1
    ones = ap₂ bits (sym (length-replicate n 1)) (sym (value-of-ones n)) ∙ bits_of_value (replicate n 1) (ones-are-bits n)

    same : value 0 l ≡ 2 ^ n - 1 → l ≡ replicate n 1
    same e = sym (bits_of_value l x) ∙ ap (bits n) e ∙ ones
