-- A chunk of a buffer, placed word by word: one turn of the loop, and what the words have in common.
-- Assumes nothing.
use borrow.Author.Count.{below_none, below_more}
use mathlib.Core.Path.{◌≡◌, refl, sym, ◌∙◌, subst}
use mathlib.Core.List.{List}
use Prim.Native.Nat.{ℕ, ◌+◌, ◌-◌, ◌≤◌, ◌<◌}
use native.Mathlib.Omega.{arith}
use native.Mathlib.Decide.{dec_lt}
use lib.ListN.{length, get_or, set, length-set}
use lib.Seq.{get_or-set_same, get_or-set_other}
use Rattle.evaluation.specs.Evaluation.{Placed}

pub placed-none : (f : ℕ → ℕ) (into : ℕ) (l : List ℕ) → Placed f into 0 l l
placed-none f into l = record { size = refl; within = below_none _; below = λ i h. refl; above = λ i h. refl }

module _ {f : ℕ → ℕ} {into r : ℕ} {before now : List ℕ} (h : Placed f into r before now) where
  -- what the loop has not come to is as it was
  pub not-yet-placed : get_or now (into + r) 0 ≡ get_or before (into + r) 0
  not-yet-placed = h.above (into + r) (omega arith)

  pub placed-next : {v : ℕ} → v ≡ f r → into + r < length before → Placed f into (r + 1) before (set now (into + r) v)
  placed-next {v} e l = record {
    size = length-set now (into + r) v ∙ h.size;
    within =
        below_more (λ i. get_or (set now (into + r) v) (into + i) 0 ≡ f i) r
        (λ i k. get_or-set_other now (into + r) (into + i) v 0 (omega arith) ∙ h.within i k)
        (get_or-set_same now (into + r) v 0 (omega (arith, h.size)) ∙ e);
    below = λ i k. get_or-set_other now (into + r) i v 0 (omega arith) ∙ h.below i k;
    above = λ i k. get_or-set_other now (into + r) i v 0 (omega arith) ∙ h.above i (omega arith);
  }

-- what the placed values and the old ones have in common
pub placed-all : (P : ℕ → Type 0) {f : ℕ → ℕ} {into count : ℕ} {before after : List ℕ} → ((r : ℕ) → r < count → P (f r))
    → ((i : ℕ) → P (get_or before i 0)) → Placed f into count before after → (i : ℕ) → P (get_or after i 0)
placed-all P {f} {into} {count} {before} {after} hf hb h i = by (dec_lt i into) (dec_lt i (into + count))
  where
    by : Dec (i < into) → Dec (i < into + count) → P (get_or after i 0)
    by (yes k) d = subst P (sym (h.below i k)) (hb i)
    by (no k) (yes l) =
        let place : into + (i - into) ≡ i = omega arith in
        let less : i - into < count = omega arith in
        subst (λ n. P (get_or after n 0)) place (subst P (sym (h.within (i - into) less)) (hf (i - into) less))
    by (no k) (no l) = let past : into + count ≤ i = omega arith in subst P (sym (h.above i past)) (hb i)
