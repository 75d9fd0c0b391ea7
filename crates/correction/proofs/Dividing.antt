-- The loop of `correction`: the quotient of g by x + 2^k from its highest coefficient down, its sum with the syndromes, and its value
-- at 2^k, side by side.
-- Assumes nothing.
use mathlib.Core.Path.{◌≡◌, sym, ap, ap₂, ◌∙◌, subst}
use mathlib.Core.List.{List}
use Prim.Native.Nat.{ℕ, suc, ◌+◌, ◌-◌, ◌≤◌, ◌<◌}
use native.Mathlib.Nat.{add-zero, zero-add, le_refl}
use native.Mathlib.Omega.{arith}
use lib.Pow.{pow_pos}
use lib.ListN.{get_or}
use Rattle.algebra.specs.Field.{Field, ⊕-comm, ⊗-comm}
use Rattle.algebra.specs.Sums.{pow, sum, sum-none, sum_first, sum-cong}
use Rattle.algebra.specs.KeyEquation.{dot}
use Rattle.algebra.specs.Roots.{eval_from, eval_from-all, eval_from-none, quotient}
use Rattle.algebra.specs.Exactness.{correction}
use Rattle.finite_field.specs.Xor.{◌⊕◌}
use Rattle.finite_field.specs.Field.{WordSize, bits, Word, product, power, inverse}
use Rattle.finite_field.specs.FieldLaws.{product-word, inverse-word}
use Rattle.finite_field.specs.Instance.{
  word_field,
  word,
  entry,
  number,
  x,
  word-zero,
  word-xor,
  word-product,
  word-inverse,
  word-times-power,
  number-of-word,
}
use Rattle.correction.specs.Received.{Words}
use Rattle.evaluation.proofs.Elements.{xor-word}
use Rattle.evaluation.proofs.Evaluating.{eval-turn}

module _ (F : Field) where
  -- the terms from j on
  abbrev sum_from : ℕ → (ℕ → F.C) → ℕ → F.C
  sum_from n f j = sum F (n - j) (λ i. f (j + i))

  sum_from-step : (n : ℕ) (f : ℕ → F.C) (j : ℕ) → 0 < j → j ≤ n → sum_from n f (j - 1) ≡ F.add (f (j - 1)) (sum_from n f j)
  sum_from-step n f j pos le =
      let more : n - (j - 1) ≡ suc (n - j) = omega arith in
      ap (λ m. sum F m (λ i. f (j - 1 + i))) more
      ∙ sum_first F (n - j) (λ i. f (j - 1 + i))
      ∙ ap₂ F.add (ap f (add-zero (j - 1)))
      (sum-cong F (n - j) (λ i. f (j - 1 + suc i)) (λ i. f (j + i)) (λ i l. ap f (let e : j - 1 + suc i ≡ j + i = omega arith in e)))

module _ (s : WordSize) (g syndromes : List ℕ) (m k : ℕ) where
  abbrev X : (word_field s).C
  X = pow (word_field s) (x s) k

  -- coefficient j of the quotient
  abbrev Q : ℕ → (word_field s).C
  Q = quotient (word_field s) (suc m) (entry s g) X

  abbrev term : ℕ → (word_field s).C
  term i = (word_field s).mul (Q i) (entry s syndromes (0 + i))

  -- the coefficients from j on are done
  pub record Dividing (j quotient numerator slope : ℕ) : Type 0 where
    pub j-le : j ≤ m
    pub quotient-word : Word s quotient
    pub quotient_is : word s quotient ≡ Q j
    pub numerator-word : Word s numerator
    pub numerator-is : word s numerator ≡ sum_from (word_field s) m term j
    pub slope-word : Word s slope
    pub slope-is : word s slope ≡ eval_from (word_field s) m Q X j

  pub dividing-start : Dividing m 0 0 0
  unfolding quotient
  dividing-start =
      let none : m - m ≡ 0 = omega arith in
      record {
        j-le = le_refl m;
        quotient-word = pow_pos (bits s);
        quotient_is = word-zero s ∙ sym (eval_from-none (word_field s) (suc m) (entry s g) X (suc m) (le_refl (suc m)));
        numerator-word = pow_pos (bits s);
        numerator-is = word-zero s ∙ sym (ap (λ n. sum (word_field s) n (λ i. term (m + i))) none ∙ sum-none (word_field s) _);
        slope-word = pow_pos (bits s);
        slope-is = word-zero s ∙ sym (eval_from-none (word_field s) m Q X m (le_refl m));
      }

  module _ (wg : Words s g) (ws : Words s syndromes) {j q n l : ℕ} (d : Dividing j q n l) where
    pub next-quotient : 0 < j → {r : ℕ} → r ≡ product s q (power s k) → Word s (r ⊕ get_or g j 0) × (word s (r ⊕ get_or g j 0) ≡ Q (j - 1))
    unfolding quotient
    next-quotient pos er =
        let back : suc j - 1 ≡ j = omega arith in
        let turn =
        eval-turn s (suc m) (entry s g) k (suc j) d.quotient-word (wg j) (omega arith) (omega (arith, d.j-le)) er
        (ap (entry s g) (sym back)) d.quotient_is in (
          turn.0,
          turn.1 ∙ ap (eval_from (word_field s) (suc m) (entry s g) X) (let e : suc j - 1 ≡ suc (j - 1) = omega arith in e),
        )

    -- one turn: r is q · 2^k, p the next quotient's product with its syndrome, t is l · 2^k
    pub dividing-turn : 0 < j → {r p t : ℕ} → r ≡ product s q (power s k) → p ≡ product s (r ⊕ get_or g j 0) (get_or syndromes (j - 1) 0)
        → t ≡ product s l (power s k) → Dividing (j - 1) (r ⊕ get_or g j 0) (n ⊕ p) (t ⊕ (r ⊕ get_or g j 0))
    dividing-turn pos {r} {p} {t} er ep et =
        let next = next-quotient pos er in
        let slope = eval-turn s m Q k j d.slope-word next.0 pos d.j-le et next.1 d.slope-is in
        let p-word : Word s p = subst (Word s) (sym ep) (product-word s (r ⊕ get_or g j 0) (get_or syndromes (j - 1) 0) next.0) in
        record {
          j-le = omega (arith, d.j-le);
          quotient-word = next.0;
          quotient_is = next.1;
          numerator-word = xor-word s d.numerator-word p-word;
          numerator-is =
              word-xor s d.numerator-word p-word
              ∙ ap₂ (word_field s).add d.numerator-is
              (ap (word s) ep
              ∙ word-product s next.0 (ws (j - 1))
              ∙ ap₂ (word_field s).mul next.1 (ap (entry s syndromes) (sym (zero-add (j - 1)))))
              ∙ ⊕-comm (word_field s) _ _
              ∙ sym (sum_from-step (word_field s) m term j pos d.j-le);
          slope-word = slope.0;
          slope-is = slope.1;
        }

  -- the end: the sum over 2^k times the value
  pub dividing-end : {j q n l c i r : ℕ} → Dividing j q n l → j ≡ 0 → c ≡ product s l (power s k) → i ≡ inverse s c → r ≡ product s n i
      → r ≡ number s (correction (word_field s) m (entry s g) (entry s syndromes) X)
  dividing-end {j} {q} {n} {l} {c} {i} {r} d done ec ei er =
      let c-word : Word s c = subst (Word s) (sym ec) (product-word s l (power s k) d.slope-word) in
      let i-word : Word s i = subst (Word s) (sym ei) (inverse-word s c c-word) in
      let r-word : Word s r = subst (Word s) (sym er) (product-word s n i d.numerator-word) in
      let whole : m - 0 ≡ m = omega arith in
      let top : word s n ≡ dot (word_field s) m Q (entry s syndromes) 0
      = d.numerator-is
      ∙ ap (sum_from (word_field s) m term) done
      ∙ ap (λ a. sum (word_field s) a (λ b. term (0 + b))) whole
      ∙ sum-cong (word_field s) m _ _ (λ b _. ap term (zero-add b)) in
      let bottom : word s c ≡ (word_field s).mul X (Rattle.algebra.specs.KeyEquation.eval (word_field s) m Q X)
      = ap (word s) ec
      ∙ word-times-power s k d.slope-word
      ∙ ap (λ a. (word_field s).mul a X) (d.slope-is ∙ ap (eval_from (word_field s) m Q X) done ∙ eval_from-all (word_field s) m Q X)
      ∙ ⊗-comm (word_field s) _ _ in
      sym (number-of-word s r r-word)
      ∙ ap (number s)
      (ap (word s) er
      ∙ word-product s d.numerator-word i-word
      ∙ ap₂ (word_field s).mul top (ap (word s) ei ∙ word-inverse s c-word ∙ ap (word_field s).inv bottom))
