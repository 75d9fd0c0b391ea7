-- What the locator's loops store, word by word: a term more of a dot product, and a coefficient of b · p + d · x^shift · q.
-- Assumes nothing.
use mathlib.Core.Path.{◌≡◌, sym, ap, ap₂, ◌∙◌, subst}
use mathlib.Core.List.{List}
use Prim.Native.Nat.{ℕ, ◌+◌, ◌-◌, ◌≤◌, ◌<◌}
use native.Mathlib.Nat.{add-sub_of_le}
use native.Mathlib.Numerals.{add-one}
use native.Mathlib.Omega.{arith}
use lib.ListN.{get_or}
use Rattle.algebra.specs.Field.{⊕-comm, ⊕-zero, ⊗-right-zero}
use Rattle.algebra.specs.Sums.{sum-none, sum-last}
use Rattle.algebra.specs.KeyEquation.{dot}
use Rattle.algebra.specs.Locator.{combine, shift, shift-below, shift-at}
use Rattle.list_laws.specs.Filled.{filled, get_or-filled, get_or-unfilled}
use Rattle.finite_field.specs.Xor.{◌⊕◌}
use Rattle.finite_field.specs.Field.{WordSize, Word, product}
use Rattle.finite_field.specs.Instance.{word_field, word, entry, number, number-zero, number-add, number-mul, number-of-word, number_word, word-of-number}
use Rattle.correction.specs.Received.{Words}
use Rattle.correction.specs.Steps.{Kept, Lengthened}
use Rattle.evaluation.proofs.Elements.{filled-words}
use Rattle.list_laws.specs.Downward.{Between, between-all}

module _ (s : WordSize) where
  number-product : {a b : ℕ} → Word s a → Word s b → number s ((word_field s).mul (word s a) (word s b)) ≡ product s a b
  number-product {a} {b} ha hb =
      number-mul s (word s a) (word s b) ∙ ap₂ (product s) (number-of-word s a ha) (number-of-word s b hb)

  module _ (p u : List ℕ) (at : ℕ) where
    pub dot-none : 0 ≡ number s (dot (word_field s) 0 (entry s p) (entry s u) at)
    dot-none = sym (ap (number s) (sum-none (word_field s) _) ∙ number-zero s)

    pub dot-more : (j : ℕ) {sum term : ℕ} → Words s p → Words s u
        → sum ≡ number s (dot (word_field s) j (entry s p) (entry s u) at)
        → term ≡ product s (get_or p j 0) (get_or u (at + j) 0)
        → sum ⊕ term ≡ number s (dot (word_field s) (j + 1) (entry s p) (entry s u) at)
    dot-more j hp hu e f =
        ap₂ ◌⊕◌ e (f ∙ sym (number-product (hp j) (hu (at + j))))
        ∙ sym
        (ap (λ n. number s (dot (word_field s) n (entry s p) (entry s u) at)) (add-one j)
        ∙ ap (number s) (sum-last (word_field s) j _)
        ∙ number-add s _ _)

  -- b · p + d · x^n · q at j, as a number
  abbrev pub combined : ℕ → List ℕ → ℕ → ℕ → List ℕ → ℕ → ℕ
  combined b p d n q j =
      number s (combine (word_field s) (word s b) (entry s p) (word s d) (shift (word_field s) n (entry s q)) j)

  module _ {b d : ℕ} (p q : List ℕ) (hb : Word s b) (hd : Word s d) (hp : Words s p) (hq : Words s q) (n j : ℕ) where
    -- from the place n on both terms are there
    pub both-terms : n ≤ j → product s b (get_or p j 0) ⊕ product s d (get_or q (j - n) 0) ≡ combined b p d n q j
    both-terms h =
        sym
        (number-add s _ _
        ∙ ap₂ ◌⊕◌ (number-product hb (hp j))
        (ap (λ z. number s ((word_field s).mul (word s d) z))
        (ap (shift (word_field s) n (entry s q)) (sym (add-sub_of_le h)) ∙ shift-at (word_field s) n (entry s q) (j - n))
        ∙ number-product hd (hq (j - n))))

    -- below it only the first
    pub first-term : j < n → product s b (get_or p j 0) ≡ combined b p d n q j
    first-term h =
        sym
        (ap (number s)
        (ap ((word_field s).add ((word_field s).mul (word s b) (entry s p j)))
        (⊗-right-zero (word_field s) (word s d) (shift-below (word_field s) n (entry s q) j h))
        ∙ ⊕-zero (word_field s) _)
        ∙ number-product hb (hp j))

  -- p with its first count coefficients replaced
  pub kept : {b d n count j : ℕ} (p q : List ℕ) {after : List ℕ} → Words s p → j ≡ count → after ≡ filled (combined b p d n q) j p
      → Kept s b d n count p q after
  kept {b} {d} {n} {count} p q {after} hp ej ef =
      let value = combined b p d n q in
      let e : after ≡ filled value count p = ef ∙ ap (λ k. filled value k p) ej in
      record {
        words = subst (Words s) (sym e) (filled-words s value count p (λ j h. number_word s _) hp);
        sums = λ j h. ap (λ l. entry s l j) e ∙ ap (word s) (get_or-filled value 0 count j p h) ∙ word-of-number s _;
        rest = λ j h. ap (λ l. get_or l j 0) e ∙ get_or-unfilled value 0 count j p h;
      }

  -- p and q with their first count coefficients replaced, downward
  pub lengthened : {b d n count j : ℕ} (p q : List ℕ) {p' q' : List ℕ} → Words s p → j ≡ 0
      → Between (combined d q b n p) j count p p' → Between (λ i. get_or p i 0) j count q q' → Lengthened s b d n count p q p' q'
  lengthened {b} {d} {n} {count} p q {p'} {q'} hp ej hp' hq' =
      let new : Between (combined d q b n p) 0 count p p' = subst (λ k. Between (combined d q b n p) k count p p') ej hp' in
      let old : Between (λ i. get_or p i 0) 0 count q q' = subst (λ k. Between (λ i. get_or p i 0) k count q q') ej hq' in
      record {
        words = between-all (Word s) (λ i. number_word s _) hp new;
        sums = λ j h. ap (word s) (new.within j (omega arith) h) ∙ word-of-number s _ ∙ ⊕-comm (word_field s) _ _;
        rest = new.above;
        moved = λ j h. old.within j (omega arith) h;
        q-rest = old.above;
      }
