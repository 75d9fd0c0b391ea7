-- A polynomial at many powers of 2, word by word: each word that is not 0 adds a power of 2 to each value.
-- Assumes nothing.
use mathlib.Core.Path.{◌≡◌, refl, sym, ap, ap₂, ◌∙◌}
use mathlib.Core.List.{List}
use Prim.Native.Nat.{ℕ, ◌+◌, ◌*◌, ◌<◌}
use native.Mathlib.Nat.{add-mul, mul_comm}
use native.Mathlib.Numerals.{add-one}
use lib.ListN.{length, get_or}
use Rattle.algebra.specs.Field.{⊕-zero, ⊗-assoc, ⊗-left-zero}
use Rattle.algebra.specs.Sums.{pow, sum-none, sum-last, pow-add, pow-mul}
use Rattle.finite_field.specs.Field.{WordSize, Word, product, power}
use Rattle.finite_field.specs.Instance.{word_field, word, entry, x, word-zero, word-power, word-times-power}
use Rattle.evaluation.specs.Words.{Words, SameFrom}
use Rattle.evaluation.specs.Evaluation.{Cleared, PowersAdded, Valued, value_at}

module _ (s : WordSize) where
  -- start is the exponent of w · 2^i
  pub start-power : (start i d : ℕ) {w : ℕ} → Word s w → power s start ≡ product s w (power s i)
      → pow (word_field s) (x s) (start + d) ≡ (word_field s).mul (word s w) (pow (word_field s) (x s) (i + d))
  start-power start i d {w} hw e =
      let F = word_field s in
      pow-add F (x s) start d
      ∙ ap (λ y. F.mul y (pow F (x s) d)) (sym (word-power s start) ∙ ap (word s) e ∙ word-times-power s i hw)
      ∙ ⊗-assoc F _ _ _
      ∙ ap (F.mul (word s w)) (sym (pow-add F (x s) i d))

  -- direct before word k: those below it are in the values
  pub record Summing (first : ℕ) (from : List ℕ) (count : ℕ) (before l : List ℕ) (k : ℕ) : Type 0 where
    pub size : length l ≡ length before
    pub words : Words s l
    pub values : (j : ℕ) → j < count → entry s l j ≡ value_at s k from (first + j)
    pub rest : SameFrom count before l

  module _ (first : ℕ) (from : List ℕ) (count : ℕ) (before : List ℕ) where
    value-next : (j k : ℕ)
        → value_at s (k + 1) from j
        ≡ (word_field s).add (value_at s k from j) ((word_field s).mul (entry s from k) (pow (word_field s) (pow (word_field s) (x s) j) k))
    value-next j k = ap (λ n. value_at s n from j) (add-one k) ∙ sum-last (word_field s) k _

    pub summing-none : Words s before → Cleared count before → Summing first from count before before 0
    summing-none words zeros = record {
      size = refl;
      words = words;
      values = λ j h. ap (word s) (zeros j h) ∙ word-zero s ∙ sym (sum-none (word_field s) _);
      rest = λ j h. refl;
    }

    -- a word 0 adds nothing
    pub summing-same : {l : List ℕ} {k : ℕ} → Summing first from count before l k → get_or from k 0 ≡ 0 → Summing first from count before l (k + 1)
    summing-same {l} {k} h e = record {
      size = h.size;
      words = h.words;
      values =
          λ j m.
          h.values j m
          ∙ sym
          (value-next (first + j) k
          ∙ ap ((word_field s).add _) (⊗-left-zero (word_field s) _ (ap (word s) e ∙ word-zero s))
          ∙ ⊕-zero (word_field s) _);
      rest = h.rest;
    }

    pub summing-next : {l after : List ℕ} {k start : ℕ} → Word s (get_or from k 0) → Summing first from count before l k
        → power s start ≡ product s (get_or from k 0) (power s (first * k)) → PowersAdded s start k count l after
        → length after ≡ length l → Summing first from count before after (k + 1)
    summing-next {l} {after} {k} {start} hw h e added same =
        let F = word_field s in
        record {
          size = same ∙ h.size;
          words = added.words;
          values =
              λ j m.
              added.sums j m
              ∙ ap₂ F.add (h.values j m)
              (start-power start (first * k) (k * j) hw e
              ∙ ap (F.mul (entry s from k))
              (ap (pow F (x s)) (ap (λ n. first * k + n) (mul_comm k j) ∙ sym (add-mul first j k)) ∙ pow-mul F (x s) (first + j) k))
              ∙ sym (value-next (first + j) k);
          rest = λ j m. added.rest j m ∙ h.rest j m;
        }

    pub summed : {l : List ℕ} (n : ℕ) → Summing first from count before l n → Valued s first (value_at s n from) count before l
    summed n h = record { words = h.words; values = h.values; rest = h.rest }
