-- Words and marks that were read from a grid are lawful arguments of the corrector.
-- Assumes nothing.
use Rattle.std.specs.Prelude.{◌≡◌, refl, Bool, false, cond, ◌&&◌, List, ℕ, zero, suc, ◌+◌, ◌-◌, ◌^◌, ◌≤◌, ◌<◌, eqb, ltb, length, get_or}
use Rattle.std.proofs.Common.{sym, ◌∙◌, subst, pow_pos}
use Rattle.std.proofs.Math.Bool.{true}
use Rattle.std.proofs.Math.Option.{some}
use native.Mathlib.Omega.{arith}
use Rattle.std.proofs.Math.Decide.{dec_lt}
use Rattle.std.proofs.Math.ListN.{get_or-eq_default}
use Rattle.list_laws.specs.Filled.{tabulate, length-tabulate, get_or-tabulate}
use Rattle.finite_field.specs.Field.{size_of}
use Rattle.block_code.specs.Nearest.{nearest}
use Rattle.block_code.specs.NearestLaws.{some_near}
use Rattle.stream.specs.Stuffing.{flat}
use Rattle.symbol.specs.Shapes.{word_size, words, Shaped}
use Rattle.symbol.specs.Places.{mode_run}
use Rattle.symbol.specs.ShapeTable.{words-fit}
use Rattle.symbol.specs.GridWords.{value, value-lt, unread}
use Rattle.sampling.specs.Sampled.{mode_module_of, block_module_of, mode_words_of, mode_marks_of, block_words_of, block_marks_of}
use Rattle.sampling.specs.Flat.{flat_marked}
use Rattle.encoder.specs.ModeMessage.{mode_checks}
use Rattle.encoder.specs.Fitting.{size_is}
use Rattle.recovery.specs.Said.{Nibbles}
use Rattle.recovery.specs.Correcting.{Lawful}

-- what holds of every entry of a table, and of 0, holds of every entry, past the end too
pub table-all : (P : ℕ → Type 0) (f : ℕ → ℕ) (n : ℕ) → P 0 → ((i : ℕ) → P (f i)) → (i : ℕ) → P (get_or (tabulate f n) i 0)
table-all P f n z h i = go (dec_lt i n)
  where
    go : Dec (i < n) → P (get_or (tabulate f n) i 0)
    go (yes l) = subst P (sym (get_or-tabulate f 0 n i l)) (h i)
    go (no l) = subst P (sym (get_or-eq_default (tabulate f n) 0 {n = i} (omega (arith, length-tabulate f n)))) z

pub unread-most : (b : ℕ) (u : ℕ → ℕ) → unread b u ≤ 1
unfolding unread
unread-most zero u = omega arith
unread-most (suc b) u = go (eqb (u b) 2) (unread-most b u)
  where
    go : (t : Bool) → unread b u ≤ 1 → cond t 1 (unread b u) ≤ 1
    go true h = omega arith
    go false h = h

pub length-mode-of : (f : Bool) (n : ℕ) (u : List ℕ) → mode_run f ≡ length (mode_words_of f n u)
unfolding mode_words_of
length-mode-of f n u = sym (length-tabulate _ (mode_run f))

pub length-block-of : (f : Bool) (L : ℕ) (u : List ℕ) → words f L ≡ length (block_words_of f L u)
unfolding block_words_of
length-block-of f L u = sym (length-tabulate _ (words f L))

pub length-marks-of : (f : Bool) (L : ℕ) (u : List ℕ) → words f L ≡ length (block_marks_of f L u)
unfolding block_marks_of
length-marks-of f L u = sym (length-tabulate _ (words f L))

pub mode-lawful : (f : Bool) (n : ℕ) (u : List ℕ) → Lawful 4 (mode_checks f) (mode_words_of f n u) (mode_marks_of f n u)
unfolding mode_words_of mode_marks_of
mode-lawful f n u =
    record {
      size = refl;
      same = length-tabulate _ (mode_run f) ∙ sym (length-tabulate _ (mode_run f));
      few = subst (λ k. k < 16) (sym (length-tabulate (λ w. value 4 (mode_module_of f n u w)) (mode_run f))) (short f);
      some-checks = checks f;
      some-data = subst (λ k. mode_checks f < k) (sym (length-tabulate (λ w. value 4 (mode_module_of f n u w)) (mode_run f))) (left f);
      mark = table-all (λ k. k ≤ 1) (λ w. unread 4 (mode_module_of f n u w)) (mode_run f) (omega arith) (λ w. unread-most 4 (mode_module_of f n u w));
      word = table-all (λ k. k < 16) (λ w. value 4 (mode_module_of f n u w)) (mode_run f) (omega arith) (λ w. value-lt 4 (mode_module_of f n u w));
    }
  where
    short : (f : Bool) → mode_run f < 16
    short false = unfold mode_run in omega arith
    short true = unfold mode_run in omega arith

    checks : (f : Bool) → 0 < mode_checks f
    checks false = unfold mode_checks in omega arith
    checks true = unfold mode_checks in omega arith

    left : (f : Bool) → mode_checks f < mode_run f
    left false = unfold mode_checks mode_run in omega arith
    left true = unfold mode_checks mode_run in omega arith

pub block-lawful : (f : Bool) (L D : ℕ) (u : List ℕ) → Shaped f L → 1 ≤ D → D + 3 ≤ words f L
    → Lawful (word_size L) (words f L - D) (block_words_of f L u) (flat_marked (word_size L) D (block_words_of f L u) (block_marks_of f L u))
unfolding block_words_of block_marks_of flat_marked
block-lawful f L D u s least checks =
    record {
      size = size_is L;
      same = length-tabulate _ _ ∙ length-tabulate _ (words f L) ∙ sym lw;
      few = subst (λ k. k < 2 ^ word_size L) (sym lw) (words-fit f L s);
      some-checks = omega arith;
      some-data = subst (λ k. words f L - D < k) (sym lw) (omega arith);
      mark = table-all (λ k. k ≤ 1) _ _ (omega arith) (λ w. marked w (ltb w D && flat (word_size L) (get_or (tabulate value-at (words f L)) w 0)));
      word = table-all (λ k. k < 2 ^ word_size L) value-at (words f L) (pow_pos (word_size L)) (λ w. value-lt (word_size L) (block_module_of f L u w));
    }
  where
    value-at : ℕ → ℕ
    value-at w = value (word_size L) (block_module_of f L u w)

    mark-at : ℕ → ℕ
    mark-at w = unread (word_size L) (block_module_of f L u w)

    lw : length (tabulate value-at (words f L)) ≡ words f L
    lw = length-tabulate value-at (words f L)

    marked : (w : ℕ) (b : Bool) → cond b 1 (get_or (tabulate mark-at (words f L)) w 0) ≤ 1
    marked w true = omega arith
    marked w false = table-all (λ k. k ≤ 1) mark-at (words f L) (omega arith) (λ w. unread-most (word_size L) (block_module_of f L u w)) w

-- corrected mode words are of 4 bits
pub found-nibbles : (K : ℕ) (received marks b : List ℕ) → nearest (size_of 4) K K received marks ≡ some b → Nibbles b
found-nibbles K received marks b e i h = (some_near (size_of 4) K K received marks e).valid.words i
