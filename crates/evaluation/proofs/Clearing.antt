-- A slice that has been cleared, before values go there.
-- Assumes nothing.
use mathlib.Core.Path.{◌≡◌, sym, ap, ◌∙◌}
use mathlib.Core.List.{List, ◌++◌}
use Prim.Native.Nat.{ℕ, ◌+◌, ◌-◌, ◌<◌}
use native.Mathlib.Nat.{le_refl}
use native.Mathlib.Omega.{arith}
use native.Mathlib.Decide.{dec_lt}
use lib.ListN.{length, get_or, drop, replicate, length-replicate, get_or-replicate, get_or-eq_default, get_or-append}
use Rattle.std.proofs.Common.{get_or-append-add, get_or-drop}
use Rattle.finite_field.specs.Field.{WordSize}
use Rattle.finite_field.specs.Instance.{word_field}
use Rattle.evaluation.specs.Words.{ZeroFrom}
use Rattle.evaluation.specs.Evaluation.{Asked, Cleared, Valued}
use Rattle.evaluation.proofs.Elements.{zero-words, zeros-from}

module _ (s : WordSize) {first : ℕ} (out : List ℕ) {b : List ℕ} (asked : Asked s first (length out) out)
    (e : b ≡ replicate (length out) 0) where
  cleared-length : length b ≡ length out
  cleared-length = ap length e ∙ length-replicate {A = ℕ} (length out) 0

  pub asked-cleared : Asked s first (length b) b
  asked-cleared = record {
    first-le = asked.first-le;
    last-le = omega (arith, cleared-length, asked.last-le);
    fits = le_refl (length b);
    words = zero-words s b (zeros-from (length out) e);
  }

  pub is-cleared : Cleared (length b) b
  is-cleared j h = zeros-from (length out) e j (omega arith)

  -- past the slice there is nothing to keep
  pub valued-over : {v : ℕ → (word_field s).C} {after : List ℕ} → Valued s first v (length b) b after
      → Valued s first v (length out) out after
  valued-over valued = record {
    words = valued.words;
    values = λ j h. valued.values j (omega (arith, cleared-length));
    rest =
        λ j h.
        valued.rest j (omega (arith, cleared-length))
        ∙ zeros-from (length out) e j (omega arith)
        ∙ sym (get_or-eq_default out 0 {n = j} h);
  }

-- what is 0 from some place on, cleared up to it
pub cleared-zeros : (n : ℕ) (l : List ℕ) {b : List ℕ} → ZeroFrom n l → b ≡ replicate n 0 ++ drop n l → ZeroFrom 0 b
cleared-zeros n l {b} zeros e j _ = by (dec_lt j n)
  where
    front : length (replicate {A = ℕ} n 0) ≡ n
    front = length-replicate {A = ℕ} n 0

    by : Dec (j < n) → get_or b j 0 ≡ 0
    by (yes h) = ap (λ x. get_or x j 0) e ∙ get_or-append (replicate n 0) (drop n l) 0 j (rw front h) ∙ get_or-replicate n j 0 0 h
    by (no h) =
        let past : n + (j - n) ≡ j = omega arith in
        ap (λ x. get_or x j 0) e
        ∙ ap (λ m. get_or (replicate n 0 ++ drop n l) m 0) (sym past ∙ ap (λ m. m + (j - n)) (sym front))
        ∙ get_or-append-add (replicate n 0) (drop n l) (j - n) 0
        ∙ get_or-drop n l (j - n) 0
        ∙ ap (λ m. get_or l m 0) past
        ∙ zeros j (omega arith)
