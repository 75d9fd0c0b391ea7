-- The loops over the words of a sequence: what one turn stores in place, and what the turns so far have made of the sequence, as
-- equations over the word field. A marked place is taken out of them in a turn.
-- Assumes nothing.
use mathlib.Core.Path.{◌≡◌, refl, sym, ap, ap₂, ◌∙◌, subst}
use mathlib.Core.Logic.{◌≢◌}
use mathlib.Core.Bool.{Bool, true, false, cond, not}
use mathlib.Core.List.{List}
use Prim.Native.Nat.{ℕ, suc, ◌+◌, ◌-◌, ◌≤◌, ◌<◌}
use native.Mathlib.Nat.{le_refl}
use native.Mathlib.Numerals.{add-one}
use native.Mathlib.Decide.{dec_lt}
use native.Mathlib.Omega.{arith}
use lib.Dec.{T, not_T, eqb→eq}
use lib.Pow.{pow_pos}
use lib.ListN.{length, get_or, set}
use Rattle.list_laws.specs.Filled.{filled, filled-step, get_or-filled, get_or-unfilled}
use Rattle.algebra.specs.Field.{⊕-comm, ⊕-zero, ⊗-comm, ⊗-zero}
use Rattle.algebra.specs.Sums.{pow}
use Rattle.algebra.specs.Erasures.{erase, erase-next, take_out-marked, take_out-read}
use Rattle.finite_field.specs.Xor.{◌⊕◌}
use Rattle.finite_field.specs.Field.{WordSize, bits, Word, product, power}
use Rattle.finite_field.specs.Instance.{word_field, word, entry, x, word-zero}
use Rattle.correction.specs.Received.{Words}
use Rattle.correction.specs.Received.{marked}
use Rattle.correction.specs.Steps.{ZeroFrom, place, Erased}
use Rattle.evaluation.proofs.Elements.{not-yet-filled, step-word, step-element, filled-words}

module _ (s : WordSize) where
  -- place j of l, with the locator 2^k taken out
  abbrev pub taking_out : ℕ → List ℕ → ℕ → ℕ
  taking_out k l j = product s (get_or l j 0) (power s k) ⊕ get_or l (j + 1) 0

  -- a turn at place j, where the product is r

  pub taking-out-next : (k j : ℕ) (l : List ℕ) {b : List ℕ} {r : ℕ} → b ≡ filled (taking_out k l) j l
      → r ≡ product s (get_or b j 0) (power s k) → j < length l → set b j (r ⊕ get_or b (j + 1) 0) ≡ filled (taking_out k l) (j + 1) l
  taking-out-next k j l e p h =
      let later : j ≤ j + 1 = omega arith in
      filled-step (taking_out k l) j l e
      (ap₂ ◌⊕◌
      (p ∙ ap (λ a. product s a (power s k)) (not-yet-filled (taking_out k l) j j l e (le_refl j)))
      (not-yet-filled (taking_out k l) j (j + 1) l e later)) h

  -- a received word, 0 where marked

  pub read-is-word : (mark : Bool) (w : ℕ) → (T (not mark) → Word s w) → Word s (cond mark 0 w)
  read-is-word true w h = pow_pos (bits s)
  read-is-word false w h = h tt

  pub read-element : (mark : Bool) (w : ℕ) → word s (cond mark 0 w) ≡ cond mark (word_field s).zer (word s w)
  read-element true w = word-zero s
  read-element false w = refl

  -- the marked places among the first i are taken out
  pub record TakenOut (count : ℕ) (marks before : List ℕ) (i : ℕ) (l : List ℕ) : Type 0 where
    pub words : Words s l
    pub sequence : (j : ℕ) → entry s l j ≡ erase (word_field s) i (marked marks) (place s (length marks)) (entry s before) j
    pub above : ZeroFrom count l

-- the element at place j, with the locator 2^k taken out
abbrev taken_out_at : (s : WordSize) → ℕ → List ℕ → ℕ → (word_field s).C
taken_out_at s k l j = (word_field s).add (entry s l (suc j)) ((word_field s).mul (pow (word_field s) (x s) k) (entry s l j))

-- where l is 0 from count on, a turn over the first count places changes all
taking-out-element : (s : WordSize) (k count : ℕ) (l : List ℕ) → Words s l → ZeroFrom count l
    → (j : ℕ) → entry s (filled (taking_out s k l) count l) j ≡ taken_out_at s k l j
taking-out-element s k count l words above j = by (dec_lt j count)
  where
    zero-at : (m : ℕ) → count ≤ m → entry s l m ≡ (word_field s).zer
    zero-at m h = ap (word s) (above m h) ∙ word-zero s

    by : Dec (j < count) → entry s (filled (taking_out s k l) count l) j ≡ taken_out_at s k l j
    by (yes h) =
        let F = word_field s in
        ap (word s) (get_or-filled (taking_out s k l) 0 count j l h)
        ∙ step-element s k (words j) (words (j + 1))
        ∙ ⊕-comm F _ _
        ∙ ap₂ F.add (ap (entry s l) (add-one j)) (⊗-comm F _ _)
    by (no h) =
        let F = word_field s in
        let X = pow F (x s) k in
        let past : count ≤ j = omega arith in
        let next : count ≤ suc j = omega arith in
        ap (word s) (get_or-unfilled (taking_out s k l) 0 count j l past)
        ∙ zero-at j past
        ∙ sym
        (ap₂ (λ a c. F.add a (F.mul X c)) (zero-at (suc j) next) (zero-at j past)
        ∙ ap (F.add F.zer) (⊗-zero F X)
        ∙ ⊕-zero F F.zer)

module _ {s : WordSize} {count : ℕ} {marks before l : List ℕ} where
  pub taken-marked : {i : ℕ} {b : List ℕ} → TakenOut s count marks before i l → get_or marks i 0 ≡ 1
      → b ≡ filled (taking_out s (length marks - 1 - i) l) count l → TakenOut s count marks before (i + 1) b
  taken-marked {i} so_far mark e =
      let F = word_field s in
      let X = place s (length marks) in
      let k = length marks - 1 - i in
      let unread : T (marked marks i) = rw mark tt in
      subst (TakenOut s count marks before (i + 1)) (sym e) (record {
        words =
            filled-words s (taking_out s k l) count l (λ j h. step-word s k (so_far.words j) (so_far.words (j + 1))) so_far.words;
        sequence =
            λ j. taking-out-element s k count l so_far.words so_far.above j
            ∙ ap₂ (λ a c. F.add a (F.mul (X i) c)) (so_far.sequence (suc j)) (so_far.sequence j)
            ∙ sym
            (ap (λ (U : ℕ → F.C). U j) (erase-next F i (marked marks) X (entry s before))
            ∙ take_out-marked F (marked marks i) (X i) (erase F i (marked marks) X (entry s before)) j unread);
        above = λ j h. get_or-unfilled (taking_out s k l) 0 count j l h ∙ so_far.above j h;
      })

  pub taken-read : {i : ℕ} {b : List ℕ} → TakenOut s count marks before i l → get_or marks i 0 ≢ 1 → b ≡ l
      → TakenOut s count marks before (i + 1) b
  taken-read {i} so_far mark e =
      let F = word_field s in
      let X = place s (length marks) in
      let read : T (not (marked marks i)) = not_T (marked marks i) (λ t. mark (eqb→eq (get_or marks i 0) 1 t)) in
      subst (TakenOut s count marks before (i + 1)) (sym e) (record {
        words = so_far.words;
        sequence =
            λ j. so_far.sequence j
            ∙ sym
            (ap (λ (U : ℕ → F.C). U j) (erase-next F i (marked marks) X (entry s before))
            ∙ take_out-read F (marked marks i) (X i) (erase F i (marked marks) X (entry s before)) j read);
        above = so_far.above;
      })

  pub taken-all : TakenOut s count marks before (length marks) l → Erased s count marks before l
  taken-all all = record { words = all.words; taken_out = all.sequence; above = all.above }

pub taken_none : {s : WordSize} {count : ℕ} {marks l : List ℕ} → Words s l → ZeroFrom count l → TakenOut s count marks l 0 l
unfolding erase
taken_none words above = record { words = words; sequence = λ j. refl; above = above }
