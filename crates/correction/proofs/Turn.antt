-- The locator's loop on lists: its start, its end, and each of algebra's three steps, read off what keep_length and lengthen leave.
-- Assumes nothing.
use mathlib.Core.Path.{◌≡◌, refl, sym, ap, ◌∙◌, subst}
use mathlib.Core.Logic.{◌≢◌}
use mathlib.Core.List.{List}
use Prim.Native.Nat.{ℕ, zero, suc, ◌+◌, ◌≤◌, ◌<◌}
use native.Mathlib.Numerals.{add-one}
use native.Mathlib.Omega.{arith}
use native.Mathlib.Decide.{dec_lt}
use lib.Pow.{pow_pos}
use lib.ListN.{length, get_or, set}
use lib.Seq.{get_or-set_same, get_or-set_other}
use Rattle.algebra.specs.KeyEquation.{dot, dot-short}
use Rattle.algebra.specs.Locator as locator
use Rattle.finite_field.specs.Field.{WordSize, bits, Word}
use Rattle.finite_field.specs.FieldLaws.{one_word}
use Rattle.finite_field.specs.Instance.{word_field, word, entry, number, number_word, word-of-number, word-zero, word-one, word-is-zero}
use Rattle.correction.specs.Steps.{ZeroFrom, Kept, Lengthened, Locating, Located}

module _ (s : WordSize) where
  -- zeros with a 1 in front are the polynomial 1
  unit-entries : (p : List ℕ) → 0 < length p → ZeroFrom 0 p → (j : ℕ)
      → Word s (get_or (set p 0 1) j 0) × (entry s (set p 0 1) j ≡ locator.unit (word_field s) j)
  unfolding locator.unit
  unit-entries p h z zero = let e = get_or-set_same p 0 1 0 h in (subst (Word s) (sym e) (one_word s), ap (word s) e ∙ word-one s)
  unit-entries p h z (suc j) =
      let e = get_or-set_other p 0 (suc j) 1 0 (omega arith) ∙ z (suc j) (omega arith) in (
        subst (Word s) (sym e) (pow_pos (bits s)),
        ap (word s) e ∙ word-zero s,
      )

  pub started : {t : ℕ} {u : List ℕ} (p q : List ℕ) → 0 < length p → ZeroFrom 0 p → ZeroFrom 0 q → Locating s t u (set p 0 1) q 0 0 1
  started {t} {u} p q h zp zq =
      record {
        p-words = λ j. (unit-entries p h zp j).0;
        q-words = λ j. subst (Word s) (sym (zq j (omega arith))) (pow_pos (bits s));
        p-above = λ j k. get_or-set_other p 0 j 1 0 (omega arith) ∙ zp j (omega arith);
        q-above = λ j k. zq j (omega arith);
        scale-word = one_word s;
        locating =
            subst (locator.Locating (word_field s) t (entry s u) 0 0 (entry s (set p 0 1)) (entry s q)) (sym (word-one s))
            (locator.locating-cong (word_field s) t (entry s u) (λ j. sym (unit-entries p h zp j).1)
            (λ j. sym (ap (word s) (zq j (omega arith)) ∙ word-zero s)) (locator.start (word_field s) t (entry s u)));
      }

  pub finished : {t : ℕ} {u p q : List ℕ} {L g b : ℕ} → Locating s t u p q L g b → t ≤ g → Located s t u L p
  finished {t} {u} v h =
      record {
        words = v.p-words;
        locates = locator.located (word_field s) t (entry s u) v.locating h;
        length-le = v.locating.L-le;
        above = λ j k. word-is-zero s (v.p-words j) (v.locating.P-above j k);
      }

  -- coefficients below count, and none from there on, are those of the list
  alike : (count : ℕ) {P : ℕ → (word_field s).C} (l : List ℕ) → ((j : ℕ) → j < count → entry s l j ≡ P j)
      → ((j : ℕ) → count ≤ j → P j ≡ (word_field s).zer) → ZeroFrom count l → (j : ℕ) → P j ≡ entry s l j
  alike count {P} l same none above j = by (dec_lt j count)
    where
      by : Dec (j < count) → P j ≡ entry s l j
      by (yes h) = sym (same j h)
      by (no h) = let past : count ≤ j = omega arith in none j past ∙ sym (ap (word s) (above j past) ∙ word-zero s)

  module _ {t : ℕ} {u p q : List ℕ} {L g b d : ℕ} (v : Locating s t u p q L g b)
      (e : d ≡ number s (dot (word_field s) (L + 1) (entry s p) (entry s u) g)) where
    pub discrepancy-word : Word s d
    discrepancy-word = subst (Word s) (sym e) (number_word s _)

    discrepancy : dot (word_field s) (suc t) (entry s p) (entry s u) g ≡ word s d
    discrepancy =
        dot-short (word_field s) (L + 1) (suc t) (entry s p) (entry s u) g (omega (arith, v.locating.L-le))
        (λ j h. v.locating.P-above j (omega arith))
        ∙ sym (ap (word s) e ∙ word-of-number s _)

    pub turn-annihilates : d ≡ 0 → Locating s t u p q L (g + 1) b
    turn-annihilates z =
        record {
          p-words = v.p-words;
          q-words = v.q-words;
          p-above = v.p-above;
          q-above = v.q-above;
          scale-word = v.scale-word;
          locating =
              subst (λ n. locator.Locating (word_field s) t (entry s u) L n (entry s p) (entry s q) (word s b)) (sym (add-one g))
              (locator.step-annihilates (word_field s) t (entry s u) v.locating (discrepancy ∙ ap (word s) z ∙ word-zero s));
        }

    pub turn-kept : (n : ℕ) {p' : List ℕ} → suc (g + n) ≡ L → Kept s b d n (L + 1) p q p' → Locating s t u p' q L (g + 1) b
    turn-kept n {p'} en k =
        let next = locator.step-same-length (word_field s) t (entry s u) v.locating n (word s d) en discrepancy in
        let above : ZeroFrom (L + 1) p'
        = λ j h. k.rest j h ∙ word-is-zero s (v.p-words j) (v.locating.P-above j (omega arith)) in
        record {
          p-words = k.words;
          q-words = v.q-words;
          p-above = λ j h. above j (omega (arith, v.locating.L-le));
          q-above = v.q-above;
          scale-word = v.scale-word;
          locating =
              subst (λ m. locator.Locating (word_field s) t (entry s u) L m (entry s p') (entry s q) (word s b)) (sym (add-one g))
              (locator.locating-cong (word_field s) t (entry s u) (alike (L + 1) p' k.sums (λ j h. next.P-above j (omega arith)) above)
              (λ j. refl) next);
        }

    pub turn-lengthened : (n : ℕ) {p' q' : List ℕ} → L + n ≡ suc g → g < t → d ≢ 0 → Lengthened s b d n (g + 2) p q p' q'
        → Locating s t u p' q' (g + 1) L d
    turn-lengthened n {p'} {q'} en gt ne k =
        let next =
        locator.step-longer (word_field s) t (entry s u) v.locating n (word s d) en gt
        (λ z. ne (word-is-zero s discrepancy-word z)) discrepancy in
        let above : ZeroFrom (g + 2) p'
        = λ j h. k.rest j h ∙ word-is-zero s (v.p-words j) (v.locating.P-above j (omega arith)) in
        let q-above : ZeroFrom (g + 2) q'
        = λ j h. k.q-rest j h ∙ word-is-zero s (v.q-words j) (v.locating.Q-above j (omega arith)) in
        record {
          p-words = k.words;
          q-words = λ j. q-word j k (dec_lt j (g + 2));
          p-above = λ j h. above j (omega arith);
          q-above = λ j h. q-above j (omega arith);
          scale-word = discrepancy-word;
          locating =
              subst (λ m. locator.Locating (word_field s) t (entry s u) m L (entry s p') (entry s q') (word s d)) (sym (add-one g))
              (locator.locating-cong (word_field s) t (entry s u)
              (alike (g + 2) p' k.sums (λ j h. next.P-above j (omega arith)) above)
              (alike (g + 2) q' (λ j h. ap (word s) (k.moved j h)) (λ j h. v.locating.P-above j (omega arith)) q-above) next);
        }
      where
        q-word : (j : ℕ) → Lengthened s b d n (g + 2) p q p' q' → Dec (j < g + 2) → Word s (get_or q' j 0)
        q-word j k (yes h) = subst (Word s) (sym (k.moved j h)) (v.p-words j)
        q-word j k (no h) = subst (Word s) (sym (k.q-rest j (omega arith))) (v.q-words j)
