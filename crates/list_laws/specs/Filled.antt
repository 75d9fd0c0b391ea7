-- The list f 0, f 1, .., f (n - 1), and a buffer filled with it from the front: what a loop that stores at each place in turn leaves.
-- Assumes nothing.
use Rattle.std.specs.Prelude.{◌≡◌, length, get_or, drop, set}
use Rattle.std.proofs.Math.Path.{refl}
use Rattle.std.proofs.Common.{ap, ◌∙◌, sym, not-suc-le-zero, eq-or-lt_of_le, le_of_suc-le-suc, add-sub_of_le, arith, length-drop, drop-cons, get_or-append-add, get_or-drop, ext_get_or}
use Rattle.std.proofs.Math.Logic.{⊎_elim}
use mathlib.Core.List.{List, [], ◌∷◌, ◌++◌, append_assoc, append-nil}
use Prim.Native.Nat.{ℕ, zero, suc, ◌+◌, ◌-◌, ◌<◌, ◌≤◌}
use Rattle.std.proofs.Math.Numerals.{add-one}
use Rattle.std.proofs.Math.ListN.{length-append, get_or-append}
use Rattle.std.proofs.lemmas.List.{set_at, get_or_at}
use Rattle.std.proofs.Math.Seq.{drop-length}

module _ {A : Type 0} where
  unfoldable pub tabulate : (ℕ → A) → ℕ → List A
  tabulate f zero = []
  tabulate f (suc n) = tabulate f n ++ f n ∷ []

  pub tabulate-suc : (f : ℕ → A) (n : ℕ) → tabulate f (n + 1) ≡ tabulate f n ++ f n ∷ []
  unfolding tabulate
  tabulate-suc f n = rw add-one

  pub length-tabulate : (f : ℕ → A) (n : ℕ) → length (tabulate f n) ≡ n
  unfolding tabulate
  length-tabulate f zero = refl
  length-tabulate f (suc n) = length-append (tabulate f n) (f n ∷ []) ∙ rw (length-tabulate f n, add-one)

  pub get_or-tabulate : (f : ℕ → A) (d : A) (n k : ℕ) → k < n → get_or (tabulate f n) k d ≡ f k
  unfolding tabulate
  get_or-tabulate f d zero k h = absurd (not-suc-le-zero h)
  get_or-tabulate f d (suc n) k h =
      ⊎_elim
      (λ (e : k ≡ n). rw e (get_or_at (tabulate f n) (f n) [] d n (length-tabulate f n)))
      (λ (lt : k < n). get_or-append (tabulate f n) (f n ∷ []) d k (rw length-tabulate lt) ∙ get_or-tabulate f d n k lt)
      (eq-or-lt_of_le (le_of_suc-le-suc h))

  -- a list is the table of its own entries
  pub tabulate-get_or : (d : A) (l : List A) → tabulate (λ i. get_or l i d) (length l) ≡ l
  tabulate-get_or d l =
      ext_get_or d (tabulate (λ i. get_or l i d) (length l)) l (length-tabulate (λ i. get_or l i d) (length l))
      (λ i h. get_or-tabulate (λ j. get_or l j d) d (length l) i (rw length-tabulate at h))

  -- the buffer l with its first n places filled by f, the rest as it was
  abbrev pub filled : (ℕ → A) → ℕ → List A → List A
  filled f n l = tabulate f n ++ drop n l

  pub filled_none : (f : ℕ → A) (l : List A) → l ≡ filled f 0 l
  unfolding tabulate
  filled_none f l = refl

  pub length-filled : (f : ℕ → A) (n : ℕ) (l : List A) → n ≤ length l → length (filled f n l) ≡ length l
  length-filled f n l h = simp (length-append, length-tabulate, length-drop) (omega arith)

  pub get_or-filled : (f : ℕ → A) (d : A) (n k : ℕ) (l : List A) → k < n → get_or (filled f n l) k d ≡ f k
  get_or-filled f d n k l h = get_or-append (tabulate f n) (drop n l) d k (rw length-tabulate h) ∙ get_or-tabulate f d n k h

  -- what is not filled yet is as it was
  pub get_or-unfilled : (f : ℕ → A) (d : A) (n k : ℕ) (l : List A) → n ≤ k → get_or (filled f n l) k d ≡ get_or l k d
  get_or-unfilled f d n k l h =
      ap (λ j. get_or (filled f n l) j d) (sym (ap (λ m. m + (k - n)) (length-tabulate f n) ∙ add-sub_of_le h))
      ∙ get_or-append-add (tabulate f n) (drop n l) (k - n) d
      ∙ get_or-drop n l (k - n) d
      ∙ ap (λ j. get_or l j d) (add-sub_of_le h)

  -- one turn of a loop that fills: the buffer b, filled up to n, with f n stored at n
  pub filled-step : (f : ℕ → A) (n : ℕ) (l : List A) {v : A} {b : List A} → b ≡ filled f n l → v ≡ f n → n < length l → set b n v ≡ filled f (n + 1) l
  filled-step f n l {v} {b} e g h =
      ap (λ x. set x n v) e
      ∙ ap (set (filled f n l) n) g
      ∙ ap (λ x. set (tabulate f n ++ x) n (f n)) (drop-cons l n (f n) h)
      ∙ set_at (tabulate f n) (get_or l n (f n)) (drop (suc n) l) (f n) n (length-tabulate f n)
      ∙ sym (rw (tabulate-suc, append_assoc, add-one) refl)

  -- the whole buffer is filled
  pub filled-all : (f : ℕ → A) (l : List A) → filled f (length l) l ≡ tabulate f (length l)
  filled-all f l = ap (λ x. tabulate f (length l) ++ x) (drop-length l) ∙ append-nil (tabulate f (length l))
