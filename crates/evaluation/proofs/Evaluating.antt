-- Horner's rule from the highest coefficient down, one turn of a loop.
-- Assumes nothing.
use mathlib.Core.Path.{◌≡◌, sym, ap, ap₂, ◌∙◌, subst}
use Prim.Native.Nat.{ℕ, suc, ◌-◌, ◌≤◌, ◌<◌}
use native.Mathlib.Omega.{arith}
use Rattle.algebra.specs.Field.{⊕-comm, ⊗-comm}
use Rattle.algebra.specs.Sums.{pow}
use Rattle.algebra.specs.Roots.{eval_from, eval_from-step}
use Rattle.finite_field.specs.Xor.{◌⊕◌}
use Rattle.finite_field.specs.Field.{WordSize, Word, product, power}
use Rattle.finite_field.specs.Instance.{word_field, word, x}
use Rattle.evaluation.proofs.Elements.{step-word, step-element}

module _ (s : WordSize) where
  -- v is the value of the coefficients from j on, w the one before them, r the product of v and 2^k
  pub eval-turn : (N : ℕ) (P : ℕ → (word_field s).C) (k j : ℕ) {v w r : ℕ} → Word s v → Word s w → 0 < j → j ≤ N
      → r ≡ product s v (power s k)
      → word s w ≡ P (j - 1)
      → word s v ≡ eval_from (word_field s) N P (pow (word_field s) (x s) k) j
      → Word s (r ⊕ w) × (word s (r ⊕ w) ≡ eval_from (word_field s) N P (pow (word_field s) (x s) k) (j - 1))
  eval-turn N P k j {v} {w} hv hw pos le er ew ev =
      let X = pow (word_field s) (x s) k in
      let next : suc (j - 1) ≡ j = omega arith in (
        subst (λ (z : ℕ). Word s (z ⊕ w)) (sym er) (step-word s k hv hw),
        ap (λ (z : ℕ). word s (z ⊕ w)) er
            ∙ step-element s k hv hw
            ∙ ap₂ (λ a b. (word_field s).add ((word_field s).mul a X) b) ev ew
            ∙ ⊕-comm (word_field s) _ _
            ∙ ap ((word_field s).add (P (j - 1)))
            (⊗-comm (word_field s) _ _ ∙ ap (λ i. (word_field s).mul X (eval_from (word_field s) N P X i)) (sym next))
            ∙ sym (eval_from-step (word_field s) N P X (j - 1) (omega arith)),
      )
