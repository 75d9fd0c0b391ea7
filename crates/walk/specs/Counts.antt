-- The two counts of an answer, from what a walk keeps: a mark for each word that has an unread module, and the words received and found.
-- They are e and r of block_code, with those marks; and over a grid `unread_words` and `wrong_words`.
-- Assumes nothing.
use Rattle.std.specs.Prelude.{◌≡◌, refl, Bool, true, false, cond, ◌&&◌, List, [], ◌∷◌, ℕ, zero, suc, ◌+◌, ◌≤◌, length, get_or, take, count_by}
use Rattle.std.proofs.Common.{arith, sym, ◌∙◌, eq-eqb, ne_eqb}
use Rattle.std.proofs.Math.Path.{ap, ap₂}
use Rattle.std.proofs.Math.Bool.{not}
use Rattle.std.proofs.Math.Decide.{ℕ_discrete}
use Rattle.std.proofs.Math.Dec.{eqb}
use Rattle.std.proofs.lemmas.List.Sums.{sum_by-cons}
use Rattle.list_laws.specs.Filled.{tabulate, length-tabulate, get_or-tabulate}
use Rattle.list_laws.specs.Range.{one, count, count_none, count-first, count_same}
use Rattle.block_code.specs.Nearest.{marked, differ}
use Rattle.block_code.specs.Nearest as code
use Rattle.symbol.specs.Shapes.{word_size, words}
use Rattle.symbol.specs.GridWords.{unread, block_module, block_word}
use Rattle.recovery.specs.Stages.{unread_words, wrong_words}

-- word w was read, and differs from the block found
abbrev pub is_wrong : List ℕ → List ℕ → List ℕ → ℕ → Bool
is_wrong received marks found w = not (marked marks w) && not (eqb (get_or found w 0) (get_or received w 0))

-- among the first n words
unfoldable pub marked_of : ℕ → List ℕ → ℕ
marked_of n marks = count n (marked marks)

unfoldable pub wrong_of : ℕ → List ℕ → List ℕ → List ℕ → ℕ
wrong_of n received marks found = count n (is_wrong received marks found)

-- among all
pub marked_all : (marks : List ℕ) → marked_of (length marks) marks ≡ code.unread marks
unfolding marked_of
marked_all marks = refl

pub wrong-all : (received marks found : List ℕ) → wrong_of (length received) received marks found ≡ differ received marks found
unfolding wrong_of
wrong-all received marks found = refl

-- as the items of the front that pass
one-first : (b : Bool) (n : ℕ) → one b + n ≡ cond b 1 0 + n
one-first true n = refl
one-first false n = refl

marked-front : (n : ℕ) (marks : List ℕ) → n ≤ length marks → count_by (λ x. eqb x 1) (take n marks) ≡ count n (marked marks)
marked-front zero marks h = sym (count_none (marked marks))
marked-front (suc n) [] h = absurd (omega arith)
marked-front (suc n) (x ∷ l) h =
    sum_by-cons (λ x. cond (eqb x 1) 1 0) x (take n l)
    ∙ sym (one-first (eqb x 1) (count_by (λ x. eqb x 1) (take n l)))
    ∙ ap (λ k. one (eqb x 1) + k) (marked-front n l (omega arith))
    ∙ sym (count-first n (marked (x ∷ l)))

pub marked-counted : (n : ℕ) (marks : List ℕ) → n ≤ length marks → count_by (λ x. eqb x 1) (take n marks) ≡ marked_of n marks
unfolding marked_of
marked-counted n marks h = marked-front n marks h

eqb-sym : (a b : ℕ) → eqb a b ≡ eqb b a
eqb-sym a b = go (ℕ_discrete a b)
  where
    go : Dec (a ≡ b) → eqb a b ≡ eqb b a
    go (yes e) = eq-eqb a b e ∙ sym (eq-eqb b a (sym e))
    go (no d) = ne_eqb a b d ∙ sym (ne_eqb b a (λ e. d (sym e)))

-- the words of the block and their marks, as sampled
module _ (f : Bool) (L p : ℕ) (g : List ℕ) where
  abbrev mark_at : ℕ → ℕ
  mark_at w = unread (word_size L) (block_module f L p g w)

  pub unread-sampled : code.unread (tabulate (λ w. unread (word_size L) (block_module f L p g w)) (words f L)) ≡ unread_words f L p g
  unfolding unread_words
  unread-sampled =
      ap (λ n. count n (marked (tabulate mark_at (words f L)))) (length-tabulate mark_at (words f L))
      ∙ count_same (words f L) _ _ (λ w h. ap (λ x. eqb x 1) (get_or-tabulate mark_at 0 (words f L) w h))

  pub wrong-sampled : (found : List ℕ)
      → differ (tabulate (block_word f L p g) (words f L)) (tabulate (λ w. unread (word_size L) (block_module f L p g w)) (words f L)) found
      ≡ wrong_words f L p g found
  unfolding wrong_words
  wrong-sampled found =
      ap (λ n. count n (is_wrong (tabulate (block_word f L p g) (words f L)) (tabulate mark_at (words f L)) found))
      (length-tabulate (block_word f L p g) (words f L))
      ∙ count_same (words f L) _ _ (λ w h.
      ap₂ (λ x y. not (eqb x 1) && not (eqb (get_or found w 0) y))
      (get_or-tabulate mark_at 0 (words f L) w h) (get_or-tabulate (block_word f L p g) 0 (words f L) w h)
      ∙ ap (λ b. not (eqb (mark_at w) 1) && not b) (eqb-sym (get_or found w 0) (block_word f L p g w)))
