-- A buffer that a loop changes from above: the places from low on, below high, hold their new values, the others are as they were.
-- Assumes nothing.
use Rattle.std.specs.Prelude.{◌≡◌, refl, ◌≢◌, ◌⊎◌, List, ℕ, ◌-◌, ◌≤◌, ◌<◌, length, get_or, set}
use Rattle.std.proofs.Common.{sym, ap, ◌∙◌, subst, inl, inr, eq-or-lt_of_le, arith, length-set, get_or-set_same, get_or-set_other}
use Rattle.std.proofs.Math.Decide.{dec_lt}

pub record Between (f : ℕ → ℕ) (low high : ℕ) (before after : List ℕ) : Type 0 where
  pub size : length after ≡ length before
  pub within : (i : ℕ) → low ≤ i → i < high → get_or after i 0 ≡ f i
  pub below : (i : ℕ) → i < low → get_or after i 0 ≡ get_or before i 0
  pub above : (i : ℕ) → high ≤ i → get_or after i 0 ≡ get_or before i 0

pub between_none : (f : ℕ → ℕ) (n : ℕ) (l : List ℕ) → Between f n n l l
between_none f n l = record { size = refl; within = λ i h k. absurd (omega arith); below = λ i h. refl; above = λ i h. refl }

-- one place more, downward
pub between-down : {f : ℕ → ℕ} {j high v : ℕ} {before after stored : List ℕ} → 0 < j → j ≤ high → high ≤ length before
    → Between f j high before after → stored ≡ set after (j - 1) v → v ≡ f (j - 1) → Between f (j - 1) high before stored
between-down {f} {j} {high} {v} {before} {after} {stored} pos le fits b es ev =
    record {
      size = ap length es ∙ length-set after (j - 1) v ∙ b.size;
      within = λ i h k. at i k (eq-or-lt_of_le h);
      below = λ i h. other i (omega arith) ∙ b.below i (omega arith);
      above = λ i h. other i (omega arith) ∙ b.above i h;
    }
  where
    other : (i : ℕ) → i ≢ j - 1 → get_or stored i 0 ≡ get_or after i 0
    other i ne = ap (λ l. get_or l i 0) es ∙ get_or-set_other after (j - 1) i v 0 ne

    at : (i : ℕ) → i < high → (j - 1 ≡ i) ⊎ (j - 1 < i) → get_or stored i 0 ≡ f i
    at i k (inl g) =
        subst (λ n. get_or stored n 0 ≡ f n) g
        (ap (λ l. get_or l (j - 1) 0) es ∙ get_or-set_same after (j - 1) v 0 (omega (arith, b.size)) ∙ ev)
    at i k (inr g) = other i (omega arith) ∙ b.within i (omega arith) k

-- what the new values and the old ones have in common
pub between-all : (P : ℕ → Type 0) {f : ℕ → ℕ} {high : ℕ} {before after : List ℕ} → ((i : ℕ) → P (f i))
    → ((i : ℕ) → P (get_or before i 0)) → Between f 0 high before after → (i : ℕ) → P (get_or after i 0)
between-all P {f} {high} {before} {after} hf hb b i = by (dec_lt i high)
  where
    by : Dec (i < high) → P (get_or after i 0)
    by (yes h) = subst P (sym (b.within i (omega arith) h)) (hf i)
    by (no h) = subst P (sym (b.above i (omega arith))) (hb i)
