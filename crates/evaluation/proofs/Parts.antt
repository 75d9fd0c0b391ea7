-- A polynomial's words and its values as the fronts of longer slices: what an evaluation leaves there.
-- Assumes nothing.
use mathlib.Core.Path.{◌≡◌, sym, ap, ◌∙◌, subst}
use mathlib.Core.List.{List, ◌++◌}
use Prim.Native.Nat.{ℕ, ◌+◌, ◌-◌, ◌≤◌, ◌<◌}
use native.Mathlib.Nat.{le_refl}
use native.Mathlib.Omega.{arith}
use native.Mathlib.Decide.{dec_lt}
use lib.ListN.{length, get_or, take, drop, get_or-append, get_or-eq_default, length-append, length-drop}
use lib.Pow.{pow_pos}
use Rattle.std.proofs.lemmas.List.{get_or-take, get_or-drop, length-take-le, get_or-append-add}
use Rattle.algebra.specs.Sums.{pow, sum-cong}
use Rattle.finite_field.specs.Field.{WordSize, bits, Word}
use Rattle.finite_field.specs.Instance.{word_field, word, x}
use Rattle.evaluation.specs.Words.{Words}
use Rattle.evaluation.specs.Evaluation.{Given, Asked, Valued, value_at}

-- a front put back
pub front-at : (n : ℕ) (q part : List ℕ) → length part ≡ n → (j : ℕ) → j < n → get_or (part ++ drop n q) j 0 ≡ get_or part j 0
front-at n q part e j h = get_or-append part (drop n q) 0 j (omega (arith, e))

pub rest-at : (n : ℕ) (q part : List ℕ) → length part ≡ n → (j : ℕ) → n ≤ j → get_or (part ++ drop n q) j 0 ≡ get_or q j 0
rest-at n q part e j h =
    let past : n + (j - n) ≡ j = omega arith in
    let here : j ≡ length part + (j - n) = omega (arith, e) in
    ap (λ m. get_or (part ++ drop n q) m 0) here
    ∙ get_or-append-add part (drop n q) (j - n) 0
    ∙ get_or-drop n q (j - n) 0
    ∙ ap (λ m. get_or q m 0) past

module _ (s : WordSize) (n : ℕ) (l : List ℕ) (fits : n ≤ length l) where
  front-length : length (take n l) ≡ n
  front-length = length-take-le n l fits

  pub front-words : ((i : ℕ) → i < n → Word s (get_or l i 0)) → Words s (take n l)
  front-words h i = by (dec_lt i n)
    where
      by : Dec (i < n) → Word s (get_or (take n l) i 0)
      by (yes k) = subst (Word s) (sym (get_or-take n l i 0 k)) (h i k)
      by (no k) =
          let past : length (take n l) ≤ i = omega (arith, front-length) in
          subst (Word s) (sym (get_or-eq_default (take n l) 0 {n = i} past)) (pow_pos (bits s))

  -- the front as an evaluation's polynomial, and as the place of its values
  pub given-front : Given s n l → Given s (length (take n l)) (take n l)
  given-front given = record {
    words = λ i h. front-words given.words i;
    n-lt = omega (arith, front-length, given.n-lt);
    n-le = le_refl (length (take n l));
  }

  pub asked-front : {first : ℕ} → Asked s first n l → Asked s first (length (take n l)) (take n l)
  asked-front asked = record {
    first-le = asked.first-le;
    last-le = omega (arith, front-length, asked.last-le);
    fits = le_refl (length (take n l));
    words = front-words (λ i h. asked.words i);
  }

  pub value-front : (j : ℕ) → value_at s (length (take n l)) (take n l) j ≡ value_at s n l j
  value-front j =
      ap (λ m. value_at s m (take n l) j) front-length
      ∙ sum-cong (word_field s) n _ _
      (λ i h. ap (λ a. (word_field s).mul (word s a) (pow (word_field s) (pow (word_field s) (x s) j) i)) (get_or-take n l i 0 h))

  -- values that went to the front: the rest is as it was
  pub valued-front : {first : ℕ} {v w : ℕ → (word_field s).C} {part : List ℕ} → Words s l → length part ≡ length (take n l)
      → ((j : ℕ) → v j ≡ w j) → Valued s first v (length (take n l)) (take n l) part → Valued s first w n l (part ++ drop n l)
  valued-front {part = part} words size same valued =
      let long : length part ≡ n = size ∙ front-length in record {
        words = λ j. put (dec_lt j n);
        values =
            λ j h.
            ap (word s) (front-at n l part long j h) ∙ valued.values j (omega (arith, front-length)) ∙ same _;
        rest = λ j h. rest-at n l part long j h;
      }
    where
      put : {j : ℕ} → Dec (j < n) → Word s (get_or (part ++ drop n l) j 0)
      put {j} (yes h) = subst (Word s) (sym (front-at n l part (size ∙ front-length) j h)) (valued.words j)
      put {j} (no h) = subst (Word s) (sym (rest-at n l part (size ∙ front-length) j (omega arith))) (words j)

pub put-length : (n : ℕ) (q part : List ℕ) → length part ≡ n → n ≤ length q → length (part ++ drop n q) ≡ length q
put-length n q part e h = simp (length-append, length-drop) (omega (arith, e))
