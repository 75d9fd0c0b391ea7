-- The loop of `read_block`: the words below i are lawful, their marks counted, and their coefficients in place.
-- Assumes nothing.
use borrow.Author.Count.{below_none, below_more}
use borrow.Author.Tests.{lt-ltb, le-ltb, lt-leb}
use mathlib.Core.Path.{◌≡◌, refl, sym, ap, ◌∙◌}
use mathlib.Core.Bool.{Bool, true, false, cond, ◌&&◌, ◌||◌}
use mathlib.Core.List.{List}
use mathlib.Core.Logic.{⊎_elim}
use Prim.Native.Nat.{ℕ, zero, suc, ◌+◌, ◌-◌, ◌^◌, ◌≤◌, ◌<◌}
use native.Mathlib.Numerals.{add-one}
use native.Mathlib.Omega.{arith}
use lib.Dec.{T, T_not, eqb, leb, ltb}
use lib.ListN.{length, get_or, set}
use lib.Seq.{get_or-set_same, get_or-set_other}
use Rattle.list_laws.specs.Range.{one, count, count_none, count-suc, all_of}
use Rattle.list_laws.specs.Tests.{decided, true_of, false_of}
use Rattle.finite_field.specs.Field.{WordSize, bits}
use Rattle.block_code.specs.Nearest.{marked, unread}
use Rattle.std.specs.Prelude.{Option, Some, None}
use Rattle.std.proofs.lemmas.Option.{none-some}
use Rattle.repair.proofs.Solving.{not-both}
use Rattle.reed_solomon.specs.Correct.{lawful_words}
use Rattle.reed_solomon.specs.BlockRead.{BlockRead}

abbrev value : Option ℕ → ℕ
value None = 0
value (Some n) = n

module _ (s : WordSize) (received marks : List ℕ) {e : Option ℕ} {to : List ℕ} where
  pub words-refused : lawful_words s received marks ≡ false → e ≡ None → BlockRead s received marks e to
  words-refused f none = record {
    marks-counted = λ t. absurd (not-both (sym t ∙ f));
    coefficients = λ t. absurd (not-both (sym t ∙ f));
    unlawful = λ _. none;
  }

  -- the answer tells whether the words are lawful
  pub refused-words : BlockRead s received marks e to → e ≡ None → lawful_words s received marks ≡ false
  refused-words read none =
      false_of (lawful_words s received marks)
      (λ t. none-some _ (sym none ∙ read.marks-counted (true_of _ t)))

  pub read-words : {n : ℕ} → BlockRead s received marks e to → e ≡ Some n → lawful_words s received marks ≡ true
  read-words read some =
      ⊎_elim (true_of (lawful_words s received marks))
      (λ n. absurd (none-some _ (sym (read.unlawful (false_of _ (λ t. T_not (lawful_words s received marks) n t))) ∙ some)))
      (decided (lawful_words s received marks))

  pub read-count : {n : ℕ} → BlockRead s received marks e to → e ≡ Some n → n ≡ unread marks
  read-count read some = ap value (sym some ∙ read.marks-counted (read-words read some))

module _ (words : ℕ) (received marks : List ℕ) where
  -- the mark at i is 0 or 1, and the word, if it is not marked, below words
  abbrev pub passes : ℕ → Bool
  passes i = leb (get_or marks i 0) 1 && (marked marks i || ltb (get_or received i 0) words)

  pub not-a-mark : (i : ℕ) → 1 < get_or marks i 0 → passes i ≡ false
  not-a-mark i h = simp (lt-leb _ _ h)

  pub not-a-word : (i : ℕ) → get_or marks i 0 ≡ 0 → words ≤ get_or received i 0 → passes i ≡ false
  not-a-word i e h = rw (e, le-ltb _ _ h)

  pub marked-passes : (i : ℕ) → get_or marks i 0 ≡ 1 → T (passes i)
  marked-passes i e = rw e tt

  pub word-passes : (i : ℕ) → get_or marks i 0 ≡ 0 → get_or received i 0 < words → T (passes i)
  word-passes i e h = rw (e, lt-ltb _ _ h) tt

  -- a word as it is read
  abbrev read_as : ℕ → ℕ
  read_as i = cond (marked marks i) 0 (get_or received i 0)

  pub record Reading (i e : ℕ) (to : List ℕ) : Type 0 where
    pub passed : (k : ℕ) → k < i → T (passes k)
    pub counted : e ≡ count i (marked marks)
    pub placed : (k : ℕ) → k < i → get_or to (length received - 1 - k) 0 ≡ read_as k

  pub reading-none : (to : List ℕ) → Reading 0 0 to
  reading-none to = record { passed = below_none _; counted = sym (count_none (marked marks)); placed = below_none _ }

  mark-counts : (m : ℕ) → m ≤ 1 → m ≡ one (eqb m 1)
  mark-counts zero h = refl
  mark-counts (suc zero) h = refl
  mark-counts (suc (suc m)) h = absurd (omega arith)

  pub reading-next : {i e w : ℕ} {to : List ℕ} → Reading i e to → i < length received → length received ≤ length to
      → get_or marks i 0 ≤ 1 → T (passes i) → w ≡ read_as i
      → Reading (i + 1) (e + get_or marks i 0) (set to (length received - 1 - i) w)
  reading-next {i} {e} {w} {to} h below fits mark pass ew =
      let n = length received in
      record {
        passed = below_more _ i h.passed pass;
        counted =
            ap (λ m. m + get_or marks i 0) h.counted
            ∙ ap (λ m. count i (marked marks) + m) (mark-counts (get_or marks i 0) mark)
            ∙ sym (ap (λ m. count m (marked marks)) (add-one i) ∙ count-suc i (marked marks));
        placed =
            below_more (λ k. get_or (set to (n - 1 - i) w) (n - 1 - k) 0 ≡ read_as k) i
            (λ k l. get_or-set_other to (n - 1 - i) (n - 1 - k) w 0 (λ o. absurd (omega arith)) ∙ h.placed k l)
            (get_or-set_same to (n - 1 - i) w 0 (omega arith) ∙ ew);
      }

-- all words are read
pub reading-all : (s : WordSize) (words : ℕ) (received marks : List ℕ) {i e : ℕ} {to : List ℕ} → words ≡ 2 ^ bits s
    → length marks ≡ length received → i ≡ length received → Reading words received marks i e to
    → BlockRead s received marks (Some e) to
reading-all s words received marks {i} {e} {to} size same all h = record {
  marks-counted = λ _. ap Some (h.counted ∙ ap (λ m. count m (marked marks)) (all ∙ sym same));
  coefficients =
      λ _ k l.
      let n = length received in
      let back : n - 1 - (n - 1 - k) ≡ k = omega arith in
      ap (λ m. get_or to m 0) (sym back) ∙ h.placed (n - 1 - k) (omega arith);
  unlawful = λ f. absurd (not-both (sym lawful ∙ f));
}
  where
    lawful : lawful_words s received marks ≡ true
    lawful = true_of _ (rw size at (all_of (length received) (passes words received marks) (λ k l. h.passed k (omega arith))))
