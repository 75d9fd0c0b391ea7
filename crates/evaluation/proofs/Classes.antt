-- Horner's rule over the chunks of a class, and over the coefficients of all classes at once.
-- Assumes nothing.
use borrow.Author.Count.{below_more}
use mathlib.Core.Path.{◌≡◌, refl, sym, ap, ◌∙◌, subst}
use mathlib.Core.List.{List}
use Prim.Native.Nat.{ℕ, suc, ◌+◌, ◌-◌, ◌*◌, ◌%◌, ◌^◌, ◌≤◌, ◌<◌}
use native.Mathlib.Nat.{add_assoc, mul_assoc, zero-mul, suc-mul, le_refl, mul-le-mul_right, le-mul_of_pos_right, not-suc-le-zero}
use native.Mathlib.Omega.{arith}
use lib.Arith.{digits_lt}
use lib.ListN.{length, get_or}
use Rattle.list_laws.specs.Filled.{filled, get_or-filled, get_or-unfilled}
use Rattle.algebra.specs.Field.{⊕-zero, ⊗-right-zero}
use Rattle.algebra.specs.Sums.{pow, sum-cong}
use Rattle.algebra.specs.Folding.{folded_start, narrow_start, folded-end, fold-folded, fold-narrow}
use Rattle.algebra.specs.Roots.{eval_from, eval_from-all, eval_from-none, eval_from-step}
use Rattle.finite_field.specs.Field.{WordSize, bits, Word, power}
use Rattle.finite_field.specs.FieldLaws.{power-order}
use Rattle.finite_field.specs.Instance.{word_field, word, entry, x, word-zero, number-pow, number-one, number-injective}
use Rattle.evaluation.specs.Words.{Words, ZeroFrom, SameFrom}
use Rattle.evaluation.specs.Evaluation.{Placed, Cleared, chunked, FoldedClass, Folded, Valued, Enough, Divided, Given, value_at}
use Rattle.evaluation.proofs.Elements.{filled-words, zero-words}
use Rattle.evaluation.proofs.Placing.{placed-all}
use Rattle.evaluation.proofs.Evaluating.{eval-turn}
use Rattle.evaluation.proofs.Folding.{adding, rowing}

-- chunk k of a class is within it
pub chunk-fits : (k chunks part : ℕ) → k < chunks → k * part + part ≤ chunks * part
chunk-fits k chunks part l = let e : suc k * part ≡ k * part + part = suc-mul k part in omega (arith, mul-le-mul_right part l)

module _ (s : WordSize) where
  -- word r of each chunk of a class
  abbrev column : ℕ → List ℕ → ℕ → ℕ → ℕ → (word_field s).C
  column part from at r k = entry s from (at + (k * part + r))

  -- fold_class before chunk k - 1: the chunks from k on are in the class
  pub record FoldingClass (part chunks : ℕ) (from : List ℕ) (at into : ℕ) (before now : List ℕ) (k : ℕ) : Type 0 where
    pub k_lt : k < chunks
    pub words : Words s now
    pub size : length now ≡ length before
    pub values : (r : ℕ) → r < part
        → entry s now (into + r) ≡ eval_from (word_field s) chunks (column part from at r) (pow (word_field s) (x s) into) k
    pub below : (i : ℕ) → i < into → get_or now i 0 ≡ get_or before i 0

  module _ (part chunks : ℕ) (from : List ℕ) (at into : ℕ) (from-words : Words s from) where
    -- the last chunk is copied
    pub folding-first : {before now : List ℕ} {k : ℕ} → Words s before → k + 1 ≡ chunks
        → Placed (λ r. get_or from (at + k * part + r) 0) into part before now
        → FoldingClass part chunks from at into now now k
    folding-first {before} {now} {k} hb ek h =
        let F = word_field s in
        let X = pow F (x s) into in
        record {
          k_lt = omega arith;
          words = placed-all (Word s) (λ r l. from-words (at + k * part + r)) hb h;
          size = refl;
          values =
              λ r l.
              ap (word s) (h.within r l ∙ ap (λ i. get_or from i 0) (add_assoc at (k * part) r))
              ∙ sym
              (eval_from-step F chunks (column part from at r) X k (omega arith)
              ∙ ap (F.add (column part from at r k))
              (⊗-right-zero F X (eval_from-none F chunks (column part from at r) X (suc k) (omega arith)))
              ∙ ⊕-zero F _);
          below = λ i l. refl;
        }

    pub folding-next : {before now after : List ℕ} {k : ℕ} → FoldingClass part chunks from at into before now k → 0 < k
        → Placed (adding s into from (at + (k - 1) * part) now into) into part now after
        → FoldingClass part chunks from at into before after (k - 1)
    folding-next {before} {now} {after} {k} so_far pos h = record {
      k_lt = omega (arith, so_far.k_lt);
      words = placed-all (Word s) (λ r l. (turn r l).0) so_far.words h;
      size = h.size ∙ so_far.size;
      values = λ r l. ap (word s) (h.within r l) ∙ (turn r l).1;
      below = λ i l. h.below i l ∙ so_far.below i l;
    }
      where
        turn : (r : ℕ) → r < part
            → Word s (adding s into from (at + (k - 1) * part) now into r)
            × (word s (adding s into from (at + (k - 1) * part) now into r)
            ≡ eval_from (word_field s) chunks (column part from at r) (pow (word_field s) (x s) into) (k - 1))
        turn r l =
            eval-turn s chunks (column part from at r) into k (so_far.words (into + r)) (from-words (at + (k - 1) * part + r)) pos
            (omega (arith, so_far.k_lt)) refl (ap (entry s from) (add_assoc at ((k - 1) * part) r)) (so_far.values r l)

    pub folded-class : {f : ℕ → ℕ} {before copied now : List ℕ} → Placed f into part before copied
        → FoldingClass part chunks from at into copied now 0 → FoldedClass s part chunks from at into before now
    folded-class h all = record {
      words = all.words;
      size = all.size ∙ h.size;
      values = λ r l. all.values r l ∙ eval_from-all (word_field s) chunks _ _;
      below = λ i l. all.below i l ∙ h.below i l;
    }

  -- finish before coefficient r - 1: those from r on are in the values
  pub record Finishing (first m stride rounds : ℕ) (from : List ℕ) (count : ℕ) (before l : List ℕ) (r : ℕ) : Type 0 where
    pub words : Words s l
    pub values : (j : ℕ) → j < count
        → entry s l j
        ≡ eval_from (word_field s) rounds (λ i. entry s from ((first + j) % m * stride + i)) (pow (word_field s) (x s) (first + j)) r
    pub rest : SameFrom count before l

  module _ (first m stride rounds : ℕ) (from : List ℕ) (count : ℕ) (before : List ℕ) where
    pub finishing-none : Words s before → Cleared count before → Finishing first m stride rounds from count before before rounds
    finishing-none words zeros = record {
      words = words;
      values = λ j h. ap (word s) (zeros j h) ∙ word-zero s ∙ sym (eval_from-none (word_field s) rounds _ _ rounds (le_refl rounds));
      rest = λ j h. refl;
    }

    pub finishing-next : {l b : List ℕ} {r : ℕ} → Words s from → Finishing first m stride rounds from count before l r → 0 < r → r ≤ rounds
        → b ≡ filled (rowing s first m stride (r - 1) from l) count l → Finishing first m stride rounds from count before b (r - 1)
    finishing-next {l} {b} {r} hf so_far pos le e =
        let f = rowing s first m stride (r - 1) from l in
        subst (λ z. Finishing first m stride rounds from count before z (r - 1)) (sym e) (record {
          words = filled-words s f count l (λ j h. (turn j h).0) so_far.words;
          values = λ j h. ap (word s) (get_or-filled f 0 count j l h) ∙ (turn j h).1;
          rest = λ j h. get_or-unfilled f 0 count j l h ∙ so_far.rest j h;
        })
      where
        turn : (j : ℕ) → j < count
            → Word s (rowing s first m stride (r - 1) from l j)
            × (word s (rowing s first m stride (r - 1) from l j)
            ≡ eval_from (word_field s) rounds (λ i. entry s from ((first + j) % m * stride + i)) (pow (word_field s) (x s) (first + j)) (r - 1))
        turn j h =
            eval-turn s rounds (λ i. entry s from ((first + j) % m * stride + i)) (first + j) r (so_far.words j)
            (hf ((first + j) % m * stride + (r - 1))) pos le refl refl (so_far.values j h)

    -- all coefficients that count are in: the values are those of the polynomial
    pub finished : {l : List ℕ} (n : ℕ) → Enough n 1 stride rounds → 0 < m → Finishing first m stride rounds from count before l 0
        → (v : ℕ → (word_field s).C) → Folded s m stride n v from → Valued s first v count before l
    finished n few pos all v folded = record {
      words = all.words;
      values =
          λ j h.
          all.values j h
          ∙ eval_from-all (word_field s) rounds _ _
          ∙ folded-end (word_field s) (x s) m stride n rounds (entry s from) v pos few.few
          (λ i k l. few.enough i (omega arith) (omega arith)) folded.narrow folded.values (first + j);
      rest = all.rest;
    }

-- x's powers go round
round : (s : WordSize) (N : ℕ) → N + 1 ≡ 2 ^ bits s → pow (word_field s) (x s) N ≡ (word_field s).one
round s N e =
    let order : N ≡ 2 ^ bits s - 1 = omega (arith, e) in
    number-injective s (number-pow s N ∙ ap (power s) order ∙ power-order s ∙ sym (number-one s))

pub classes-pos : {s : WordSize} {m per part : ℕ} → Divided s m per part → 0 < m * per
classes-pos {m = m} {per} d = omega (arith, le-mul_of_pos_right m d.per_pos, d.m-pos)

-- where the classes stand in the slices
pub record Room (m per part chunks c class N : ℕ) : Type 0 where
  pub stride : per * part < N
  pub classes : m * per < N
  pub into : c * part + part < N
  pub from : class * (per * part) + chunks * part < N

pub fold-room : {s : WordSize} {m per part chunks c class : ℕ} → Divided s m per part → chunks ≤ per → class < m → c < m * per
    → Room m per part chunks c class (2 ^ bits s)
fold-room {m = m} {per} {part} {chunks} {c} {class} d few class-lt c_lt =
    let all : m * per * part ≡ m * (per * part) = mul_assoc m per part in
    let one : 0 * (per * part) + per * part ≤ m * (per * part) = chunk-fits 0 m (per * part) d.m-pos in
    let none : 0 * (per * part) ≡ 0 = zero-mul (per * part) in
    let chunks-le : chunks * part ≤ per * part = mul-le-mul_right part few in
    let class-le : class * (per * part) + per * part ≤ m * (per * part) = chunk-fits class m (per * part) class-lt in
    let c-le : c * part + part ≤ m * per * part = chunk-fits c (m * per) part c_lt in
    let classes-le : m * per ≤ m * per * part = le-mul_of_pos_right (m * per) d.part-pos in
    let whole = d.whole in
    record { stride = omega arith; classes = omega arith; into = omega arith; from = omega arith }

module _ (s : WordSize) where
  -- fold before class c: those below it are made
  pub record FoldedInto (m per part chunks : ℕ) (from : List ℕ) (classes : ℕ) (after : List ℕ) : Type 0 where
    pub words : Words s after
    pub values : (c r : ℕ) → c < classes → r < part
        → entry s after (c * part + r) ≡ chunked s (c * part) part chunks from (c % m * (per * part)) r

  module _ (m per part chunks : ℕ) (from : List ℕ) where
    pub folded-none : {l : List ℕ} → Words s l → FoldedInto m per part chunks from 0 l
    folded-none h = record { words = h; values = λ c r k. absurd (not-suc-le-zero k) }

    pub folded-next : {now after : List ℕ} {c class : ℕ} → FoldedInto m per part chunks from c now → class ≡ c % m
        → FoldedClass s part chunks from (class * (per * part)) (c * part) now after
        → FoldedInto m per part chunks from (c + 1) after
    folded-next {now} {after} {c} {class} so_far e h = record {
      words = h.words;
      values =
          λ d r k l.
          below_more (λ i. (r : ℕ) → r < part → entry s after (i * part + r) ≡ chunked s (i * part) part chunks from (i % m * (per * part)) r)
          c
          (λ i k r l. ap (word s) (h.below (i * part + r) (digits_lt k l)) ∙ so_far.values i r k l)
          (λ r l. h.values r l ∙ ap (λ i. chunked s (c * part) part chunks from (i * (per * part)) r) e)
          d k r l;
    }

    -- all classes are made: the values are still those of the polynomial
    pub folded-all : {l : List ℕ} (n : ℕ) → Divided s m per part → Enough n part per chunks
        → FoldedInto m per part chunks from (m * per) l
        → (v : ℕ → (word_field s).C) → Folded s m (per * part) n v from → Folded s (m * per) part n v l
    folded-all {l} n d few all v folded = record {
      words = all.words;
      values =
          fold-folded (word_field s) (x s) m per part chunks n (entry s from) (entry s l) v (round s (m * per * part) d.whole) d.m-pos (classes-pos d) few.few few.enough
          folded.narrow folded.values all.values;
      narrow =
          fold-narrow (word_field s) (x s) m per part chunks n (entry s from) (entry s l) v (round s (m * per * part) d.whole) d.m-pos (classes-pos d) few.few few.enough
          folded.narrow folded.values all.values;
    }

  -- one class: the polynomial itself, copied into zeros
  module _ {n : ℕ} {from : List ℕ} (zeros : List ℕ) {l : List ℕ} (blank : ZeroFrom 0 zeros) (e : l ≡ filled (λ i. get_or from i 0) n zeros)
      (given : Given s n from) where
    copied_at : (k : ℕ) → k < n → entry s l k ≡ entry s from k
    copied_at k h = ap (λ z. entry s z k) e ∙ ap (word s) (get_or-filled (λ i. get_or from i 0) 0 n k zeros h)

    copied-past : (k : ℕ) → n ≤ k → entry s l k ≡ (word_field s).zer
    copied-past k h =
        ap (λ z. entry s z k) e
        ∙ ap (word s) (get_or-unfilled (λ i. get_or from i 0) 0 n k zeros h ∙ blank k (omega arith))
        ∙ word-zero s

    pub folded-given : (N : ℕ) → N + 1 ≡ 2 ^ bits s → Folded s 1 N n (value_at s n from) l
    folded-given N whole = record {
      words = rw e (filled-words s (λ i. get_or from i 0) n zeros given.words (zero-words s zeros blank));
      values =
          λ j.
          folded_start (word_field s) (x s) N n (entry s l) (omega (arith, given.n-lt, whole)) copied-past j
          ∙ sum-cong (word_field s) n _ _ (λ k h. ap (λ a. (word_field s).mul a (pow (word_field s) (pow (word_field s) (x s) j) k)) (copied_at k h));
      narrow = narrow_start (word_field s) N n (entry s l) copied-past;
    }
