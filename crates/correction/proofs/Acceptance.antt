-- What the settled syndromes and the counts say of the candidate: it is near exactly if what is left of the syndromes is 0 and 2r + e is
-- within the limit. What is left are its own power sums.
-- Assumes nothing.
use borrow.Author.Tests.{eq-eqb, le-leb, leb-true, leb-false}
use mathlib.Core.Path.{◌≡◌, refl, sym, ap, ◌∙◌}
use mathlib.Core.Bool.{Bool, true, false, not, ◌&&◌, and-false}
use mathlib.Core.List.{List}
use Prim.Native.Nat.{ℕ, zero, suc, ◌+◌, ◌*◌, ◌^◌, ◌≤◌, ◌<◌}
use native.Mathlib.Nat.{add-zero}
use native.Mathlib.Omega.{arith}
use lib.Dec.{eqb, leb, eqb→eq}
use lib.ListN.{length, get_or}
use lib.Pow.{pow_pos}
use Rattle.algebra.specs.Field.{Field, ⊕-zero, ⊗-left-zero, is_zero, is_zero→zero, zero→is_zero}
use Rattle.algebra.specs.Sums.{sum-zero}
use Rattle.algebra.specs.Vandermonde.{power_sum, power-sum-add}
use Rattle.algebra.specs.Distance as distance
use Rattle.list_laws.specs.Range.{one, count, count_none, count-suc, count_same, count_most, all, all-at, all_of}
use Rattle.finite_field.specs.Field.{WordSize, bits, Word}
use Rattle.finite_field.specs.FieldLaws.{most-words}
use Rattle.finite_field.specs.Instance.{word_field, word, entry, word-zero, word-is-zero}
use Rattle.correction.specs.Received.{Words}
use Rattle.correction.specs.Received.{marked, unread}
use Rattle.correction.specs.Steps.{ZeroFrom, place, SyndromesOf, SettledAll, corrected, NearTo}
use Rattle.list_laws.specs.Tests.{true_of, holds, same_test}

-- the first n words are 0
abbrev pub zeros : ℕ → List ℕ → Bool
zeros n l = all n (λ j. eqb (get_or l j 0) 0)

-- how many words were read and are corrected
abbrev pub wrongs : List ℕ → List ℕ → ℕ
wrongs marks corrections = count (length marks) (λ i. not (marked marks i) && not (eqb (get_or corrections i 0) 0))

module _ (s : WordSize) where
  -- a count over the words of a block is small
  pub count-words : (n : ℕ) (p : ℕ → Bool) {r : ℕ} → n ≤ 2 ^ bits s → r ≡ count n p → r ≤ 4096
  count-words n p h e = omega (arith, most-words s, count_most n p)

  pub zero_test : {a : ℕ} → Word s a → is_zero (word_field s) (word s a) ≡ eqb a 0
  zero_test {a} h =
      same_test _ _
      (λ t. holds (eq-eqb a 0 (word-is-zero s h (is_zero→zero (word_field s) _ t))))
      (λ t. zero→is_zero (word_field s) _ (ap (word s) (eqb→eq a 0 t) ∙ word-zero s))

  -- r is what algebra counts
  errors-are : (marks corrections : List ℕ) (y : ℕ → (word_field s).C) → Words s corrections
      → distance.errors (word_field s) (length marks) (marked marks) y (corrected s y corrections) ≡ wrongs marks corrections
  errors-are marks corrections y h =
      distance.errors-by-corrections (word_field s) (length marks) (marked marks) y (entry s corrections)
      ∙ count_same (length marks) _ _ (λ i l. ap (λ b. not (marked marks i) && not b) (zero_test (h i)))

  module _ (check limit : ℕ) (marks corrections before after : List ℕ) (h : Words s corrections)
      (settled : SettledAll s (length marks) check corrections before after) (y : ℕ → (word_field s).C)
      (syndromes : SyndromesOf s check (length marks) y before) where
    left_over : (j : ℕ) → j < check
        → entry s after j ≡ power_sum (word_field s) (length marks) (place s (length marks)) (corrected s y corrections) (suc j)
    left_over j l =
        settled.sums j l
        ∙ ap (λ z. (word_field s).add z (power_sum (word_field s) (length marks) (place s (length marks)) (entry s corrections) (suc j)))
        (syndromes j l)
        ∙ sym (power-sum-add (word_field s) (length marks) (place s (length marks)) y (entry s corrections) (suc j))

    pub near : {r e : ℕ} → zeros check after ≡ true → r ≡ wrongs marks corrections → e ≡ unread marks → leb (2 * r + e) limit ≡ true
        → NearTo s check limit marks y (corrected s y corrections)
    near z r-is e-is t = record {
      valid = λ j l. sym (left_over j l) ∙ ap (word s) (eqb→eq _ 0 (all-at check _ (holds z) j l)) ∙ word-zero s;
      within = omega (arith, errors-are marks corrections y h, leb-true);
    }

    pub near-zeros : NearTo s check limit marks y (corrected s y corrections) → zeros check after ≡ true
    near-zeros n =
        true_of _ (all_of check _ (λ j l. holds (eq-eqb _ _ (word-is-zero s (settled.words j) (left_over j l ∙ n.valid j l)))))

    pub not-near : {r e : ℕ} → r ≡ wrongs marks corrections → e ≡ unread marks → leb (2 * r + e) limit ≡ false
        → NearTo s check limit marks y (corrected s y corrections) → ⊥
    not-near r-is e-is t n = omega (arith, errors-are marks corrections y h, leb-false, n.within)

-- no number is counted
count-never : (n : ℕ) (p : ℕ → Bool) → ((i : ℕ) → p i ≡ false) → count n p ≡ 0
count-never zero p h = count_none p
count-never (suc n) p h = count-suc n p ∙ ap (λ b. count n p + one b) (h n) ∙ add-zero (count n p) ∙ count-never n p h

-- nothing is corrected, and every syndrome is 0: the block is near where there are few marks
pub clean-near : (s : WordSize) (check limit : ℕ) (marks corrections l : List ℕ) (y : ℕ → (word_field s).C) → ZeroFrom 0 corrections → Words s l
    → SyndromesOf s check (length marks) y l → zeros check l ≡ true → unread marks ≤ limit
    → NearTo s check limit marks y (corrected s y corrections)
clean-near s check limit marks corrections l y none hl sums z few =
    near s check limit marks corrections l l (λ j. rw (none j (omega arith)) (pow_pos (bits s)))
    (record {
      words = hl;
      sums =
          λ j h.
          sym
          (ap (F.add (entry s l j))
          (sum-zero F (length marks) _ (λ i k. ⊗-left-zero F _ (ap (word s) (none i (omega arith)) ∙ word-zero s)))
          ∙ ⊕-zero F _);
    })
    y sums {r = wrongs marks corrections} {e = unread marks} z refl refl
    (le-leb (2 * wrongs marks corrections + unread marks) limit (omega (arith, no-wrong)))
  where
    F : Field
    F = word_field s

    no-wrong : wrongs marks corrections ≡ 0
    no-wrong =
        count-never (length marks) _
        (λ i. ap (λ a. not (marked marks i) && not (eqb a 0)) (none i (omega arith)) ∙ and-false (not (marked marks i)))
