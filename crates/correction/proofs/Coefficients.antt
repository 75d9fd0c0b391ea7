-- The block's polynomial by its coefficients, the lowest first: its values are the power sums of the received words.
-- Assumes nothing.
use mathlib.Core.Path.{◌≡◌, ap, ap₂, ◌∙◌}
use mathlib.Core.List.{List}
use Prim.Native.Nat.{ℕ, suc, ◌-◌, ◌≤◌, ◌<◌}
use native.Mathlib.Omega.{arith}
use native.Mathlib.Numerals.{one-add}
use lib.ListN.{length, get_or}
use Rattle.algebra.specs.Sums.{pow, sum-cong, pow-swap}
use Rattle.algebra.specs.Folding.{sum-reverse}
use Rattle.algebra.specs.Vandermonde.{power_sum}
use Rattle.finite_field.specs.Field.{WordSize, Word}
use Rattle.finite_field.specs.Instance.{word_field, word, entry, x}
use Rattle.evaluation.specs.Evaluation.{Given, Valued, value_at}
use Rattle.correction.specs.Received.{marked}
use Rattle.correction.specs.Steps.{ZeroFrom, Lawful, Coefficients, place, read_word, Syndromes}
use Rattle.correction.proofs.Sequences.{read-is-word, read-element}

module _ (s : WordSize) {check limit : ℕ} {received marks : List ℕ} (l : List ℕ) (lawful : Lawful s check limit received marks)
    (read : Coefficients received marks l) where
  pub coefficient-word : (k : ℕ) → k < length received → Word s (get_or l k 0)
  coefficient-word k h =
      let n = length received in
      rw (read k h) (read-is-word s (marked marks (n - 1 - k)) (get_or received (n - 1 - k) 0) (lawful.readable (n - 1 - k)))

  pub coefficients-given : length received ≤ length l → Given s (length received) l
  coefficients-given fits = record { words = coefficient-word; n-lt = lawful.length-lt; n-le = fits }

  pub coefficient-is : (k : ℕ) → k < length received → entry s l k ≡ read_word s received marks (length received - 1 - k)
  coefficient-is k h =
      let n = length received in
      ap (word s) (read k h) ∙ read-element s (marked marks (n - 1 - k)) (get_or received (n - 1 - k) 0)

  value-is : (j : ℕ)
      → value_at s (length received) l j ≡ power_sum (word_field s) (length received) (place s (length received)) (read_word s received marks) j
  value-is j =
      let F = word_field s in
      let n = length received in
      let X = pow F (x s) j in
      let y = read_word s received marks in
      sum-cong F n _ (λ k. F.mul (y (n - 1 - k)) (pow F X k)) (λ k h. ap (λ a. F.mul a (pow F X k)) (coefficient-is k h))
      ∙ sum-reverse F n (λ k. F.mul (y (n - 1 - k)) (pow F X k))
      ∙ sum-cong F n _ _
      (λ i h. ap₂ F.mul (ap y (let same : n - 1 - (n - 1 - i) ≡ i = omega arith in same)) (pow-swap F (x s) j (n - 1 - i)))

  pub syndromes-are : {before after : List ℕ} → ZeroFrom 0 before → Valued s 1 (value_at s (length received) l) check before after
      → Syndromes s check received marks after
  syndromes-are zeros valued = record {
    words = valued.words;
    sums = λ j h. valued.values j h ∙ ap (value_at s (length received) l) (one-add j) ∙ value-is (suc j);
    above = λ j h. valued.rest j h ∙ zeros j (omega arith);
  }
