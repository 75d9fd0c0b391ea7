-- The rule of a table, at all of its entries, from one test that is computed over the whole table.
-- Assumes nothing.
use Rattle.std.proofs.Common.{◌∙◌, subst, sym, add-zero, zero-add, add-suc, suc-add, le_of_suc-le-suc, not-suc-le-zero}
use Rattle.std.specs.Prelude.{Bool, true, ◌&&◌, List, [], ◌∷◌, ℕ, zero, suc, ◌+◌, ◌<◌, T, length, get_or}
use Rattle.list_laws.specs.Tests.{both-parts}

module _ {A : Type 0} where
  -- the test passes at each entry and its place, counted from i
  abbrev pub every : (ℕ → A → Bool) → ℕ → List A → Bool
  every f i [] = true
  every f i (x ∷ xs) = f i x && every f (suc i) xs

  pub every-from : (f : ℕ → A → Bool) (d : A) (xs : List A) (i : ℕ) → T (every f i xs) → (k : ℕ) → k < length xs → T (f (i + k) (get_or xs k d))
  every-from f d [] i t k h = absurd (not-suc-le-zero h)
  every-from f d (x ∷ xs) i t zero h = subst (λ m. T (f m x)) (sym (add-zero i)) (both-parts (f i x) (every f (suc i) xs) t).0
  every-from f d (x ∷ xs) i t (suc k) h =
      subst (λ m. T (f m (get_or xs k d))) (suc-add i k ∙ sym (add-suc i k))
      (every-from f d xs (suc i) (both-parts (f i x) (every f (suc i) xs) t).1 k (le_of_suc-le-suc h))

  pub every-at : (f : ℕ → A → Bool) (d : A) (xs : List A) → T (every f 0 xs) → (k : ℕ) → k < length xs → T (f k (get_or xs k d))
  every-at f d xs t k h = subst (λ m. T (f m (get_or xs k d))) (zero-add k) (every-from f d xs 0 t k h)
