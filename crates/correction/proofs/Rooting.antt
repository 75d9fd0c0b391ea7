-- A polynomial times x + 2^k, coefficient by coefficient.
-- Assumes nothing.
use mathlib.Core.Path.{◌≡◌, sym, ap, ap₂, ◌∙◌, subst}
use mathlib.Core.List.{List}
use Prim.Native.Nat.{ℕ, zero, suc, ◌+◌, ◌-◌, ◌≤◌, ◌<◌}
use native.Mathlib.Omega.{arith}
use native.Mathlib.Decide.{dec_lt}
use lib.ListN.{length, get_or, set}
use lib.Seq.{get_or-set_same, get_or-set_other}
use Rattle.algebra.specs.Field.{⊕-comm, ⊗-comm, zero-⊕}
use Rattle.algebra.specs.Sums.{pow}
use Rattle.algebra.specs.Locator.{times_x}
use Rattle.algebra.specs.Values.{times_root}
use Rattle.list_laws.specs.Downward.{Between}
use Rattle.finite_field.specs.Xor.{◌⊕◌}
use Rattle.finite_field.specs.Field.{WordSize, Word, product, power}
use Rattle.finite_field.specs.FieldLaws.{product-word}
use Rattle.finite_field.specs.Instance.{word_field, word, entry, x, word-times-power}
use Rattle.correction.specs.Received.{Words}
use Rattle.correction.specs.Steps.{Rooted}
use Rattle.evaluation.proofs.Elements.{step-word, step-element}

module _ (s : WordSize) (k : ℕ) where
  -- coefficient i above the lowest
  abbrev pub raised : List ℕ → ℕ → ℕ
  raised g i = product s (get_or g i 0) (power s k) ⊕ get_or g (i - 1) 0

  module _ (m : ℕ) {g h : List ℕ} (wg : Words s g) (fits : m + 2 ≤ length g) (d : Between (raised g) 1 (m + 2) g h) where
    -- the list when the lowest coefficient is multiplied too
    pub rooted : {v : ℕ} → v ≡ product s (get_or g 0 0) (power s k) → Rooted s k m g (set h 0 v)
    unfolding times_x
    rooted {v} e = record { words = words; coefficients = coefficients; rest = rest }
      where
        low : get_or (set h 0 v) 0 0 ≡ product s (get_or g 0 0) (power s k)
        low = get_or-set_same h 0 v 0 (omega (arith, d.size)) ∙ e

        high : (i : ℕ) → 0 < i → get_or (set h 0 v) i 0 ≡ get_or h i 0
        high i l = get_or-set_other h 0 i v 0 (λ p. absurd (omega arith))

        at : (i : ℕ) → Dec (i < m + 2) → Word s (get_or (set h 0 v) i 0)
        at zero l = subst (Word s) (sym low) (product-word s (get_or g 0 0) (power s k) (wg 0))
        at (suc i) (yes l) =
            subst (Word s) (sym (high (suc i) (omega arith) ∙ d.within (suc i) (omega arith) l)) (step-word s k (wg (suc i)) (wg (suc i - 1)))
        at (suc i) (no l) = subst (Word s) (sym (high (suc i) (omega arith) ∙ d.above (suc i) (omega arith))) (wg (suc i))

        words : Words s (set h 0 v)
        words i = at i (dec_lt i (m + 2))

        coefficients : (j : ℕ) → j < suc (suc m) → entry s (set h 0 v) j ≡ times_root (word_field s) (pow (word_field s) (x s) k) (entry s g) j
        coefficients zero l =
            ap (word s) low
            ∙ word-times-power s k (wg 0)
            ∙ ⊗-comm (word_field s) _ _
            ∙ sym (zero-⊕ (word_field s) _)
        coefficients (suc j) l =
            let one_less : suc j - 1 ≡ j = omega arith in
            ap (word s) (high (suc j) (omega arith) ∙ d.within (suc j) (omega arith) (omega arith))
            ∙ step-element s k (wg (suc j)) (wg (suc j - 1))
            ∙ ⊕-comm (word_field s) _ _
            ∙ ap₂ (word_field s).add (ap (entry s g) one_less) (⊗-comm (word_field s) _ _)

        rest : (j : ℕ) → suc (suc m) ≤ j → get_or (set h 0 v) j 0 ≡ get_or g j 0
        rest j l = high j (omega arith) ∙ d.above j (omega arith)
