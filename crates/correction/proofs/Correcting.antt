-- The loop of `corrections`: below i each noted place has what is missing there, and the others 0.
-- Assumes nothing.
use borrow.Author.Tests.{eq-eqb, ne_eqb}
use mathlib.Core.Path.{◌≡◌, refl, sym, ap, ◌∙◌, subst}
use mathlib.Core.Bool.{cond}
use mathlib.Core.List.{List}
use Prim.Native.Nat.{ℕ, ◌+◌, ◌≤◌, ◌<◌}
use native.Mathlib.Nat.{not-suc-le-zero}
use native.Mathlib.Numerals.{add-one}
use native.Mathlib.Decide.{dec_lt}
use native.Mathlib.Omega.{arith}
use lib.Pow.{pow_pos}
use lib.ListN.{length, get_or, set, length-set}
use lib.Seq.{get_or-set_same, get_or-set_other}
use Rattle.algebra.specs.Exactness.{correction}
use Rattle.list_laws.specs.Range.{up_to}
use Rattle.finite_field.specs.Field.{WordSize, bits, Word}
use Rattle.finite_field.specs.Instance.{word_field, word, entry, number, word-zero, word-of-number, number_word}
use Rattle.correction.specs.Received.{marked}
use Rattle.correction.specs.Steps.{ZeroFrom, SameFrom, place, Corrections}

module _ (s : WordSize) (n m : ℕ) (g syndromes noted : List ℕ) where
  -- what is missing at a place
  abbrev pub missing_at : ℕ → (word_field s).C
  missing_at i = correction (word_field s) m (entry s g) (entry s syndromes) (place s n i)

  -- what a place has when it is done
  abbrev Done : List ℕ → ℕ → Type 0
  Done l j = Word s (get_or l j 0) × (entry s l j ≡ cond (marked noted j) (missing_at j) (word_field s).zer)

  pub record Correcting (i : ℕ) (l : List ℕ) : Type 0 where
    pub size : length l ≡ length noted
    pub done : (j : ℕ) → j < i → Done l j
    pub rest : SameFrom i noted l

  pub correcting-none : Correcting 0 noted
  correcting-none = record { size = refl; done = λ j h. absurd (not-suc-le-zero h); rest = λ j h. refl }

  -- the place is not noted, so it has 0
  pub correcting-skip : {i : ℕ} {l : List ℕ} → Correcting i l → get_or noted i 0 ≤ 1 → (get_or l i 0 ≡ 1 → ⊥) → Correcting (i + 1) l
  correcting-skip {i} {l} h most ne =
      let same : get_or l i 0 ≡ get_or noted i 0 = h.rest i (omega arith) in
      let nil : get_or l i 0 ≡ 0 = zero-or-one (get_or l i 0) (omega arith) ne in
      rw add-one
      (record {
        size = h.size;
        done =
            up_to (Done l) i h.done (
              rw nil (pow_pos (bits s)),
              ap (word s) nil
                  ∙ word-zero s
                  ∙ sym (ap (λ b. cond b (missing_at i) (word_field s).zer) (ne_eqb (get_or noted i 0) 1 (λ e. ne (same ∙ e)))),
            );
        rest = λ j k. h.rest j (omega arith);
      })
    where
      zero-or-one : (a : ℕ) → a ≤ 1 → (a ≡ 1 → ⊥) → a ≡ 0
      zero-or-one a le f = by (dec_lt a 1)
        where
          by : Dec (a < 1) → a ≡ 0
          by (yes k) = omega arith
          by (no k) = absurd (f (omega arith))

  -- the place is noted, and gets what is missing
  pub correcting-take : {i v : ℕ} {l : List ℕ} → Correcting i l → get_or l i 0 ≡ 1 → i < length l → v ≡ number s (missing_at i)
      → Correcting (i + 1) (set l i v)
  correcting-take {i} {v} {l} h e lt ev =
      let same : get_or l i 0 ≡ get_or noted i 0 = h.rest i (omega arith) in
      let here : get_or (set l i v) i 0 ≡ number s (missing_at i) = get_or-set_same l i v 0 lt ∙ ev in
      rw add-one
      (record {
        size = length-set l i v ∙ h.size;
        done =
            up_to (Done (set l i v)) i
            (λ j k. subst (λ (a : ℕ). Word s a × (word s a ≡ cond (marked noted j) (missing_at j) (word_field s).zer))
            (sym (get_or-set_other l i j v 0 (λ p. absurd (omega arith)))) (h.done j k)) (
              rw here (number_word s (missing_at i)),
              ap (word s) here
                  ∙ word-of-number s (missing_at i)
                  ∙ sym (ap (λ b. cond b (missing_at i) (word_field s).zer) (eq-eqb (get_or noted i 0) 1 (sym same ∙ e))),
            );
        rest = λ j k. get_or-set_other l i j v 0 (λ p. absurd (omega arith)) ∙ h.rest j (omega arith);
      })

  pub correcting-all : {i : ℕ} {l : List ℕ} → Correcting i l → i ≡ n → ZeroFrom n noted → Corrections s n m g syndromes noted l
  correcting-all {i} {l} h e z =
      record { words = λ j. by j (dec_lt j i); missing = λ j k. (h.done j (omega arith)).1 }
    where
      by : (j : ℕ) → Dec (j < i) → Word s (get_or l j 0)
      by j (yes k) = (h.done j k).0
      by j (no k) = rw (h.rest j (omega arith), z j (omega arith)) (pow_pos (bits s))
