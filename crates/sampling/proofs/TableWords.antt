-- Words read through a table of places are those at the places.
-- Assumes nothing.
use mathlib.Core.Path.{◌≡◌, ap, ap₂, ◌∙◌}
use mathlib.Core.Bool.{Bool}
use mathlib.Core.List.{List}
use Prim.Native.Nat.{ℕ, ◌+◌, ◌*◌, ◌≤◌, ◌<◌}
use native.Mathlib.Nat.{zero-add}
use native.Mathlib.Omega.{arith}
use lib.ListN.{length, get_or}
use Rattle.list_laws.specs.Filled.{tabulate}
use Rattle.list_laws.specs.Writes.{writes}
use Rattle.symbol.specs.Shapes.{bits, words, word_size, skipped}
use Rattle.symbol.specs.Places.{mode_run, mode_place, data_place}
use Rattle.symbol.specs.GridWords.{value, unread, block-index}
use Rattle.symbol.specs.Tables.{table_at}
use Rattle.sampling.specs.Sampled.{table_module, mode_module_of, block_module_of, mode_words_of, mode_marks_of, block_words_of, block_marks_of, values_same, marks-same}

module _ (f : Bool) (n : ℕ) (u before : List ℕ) (enough : 4 * mode_run f ≤ length before) {table : List ℕ} (made : table ≡ writes before (λ k. k) (mode_place f n) (4 * mode_run f)) {m : ℕ} (all : m ≡ mode_run f) where
  at_place : (w b : ℕ) → w < mode_run f → b < 4 → table_module 4 0 table u w b ≡ mode_module_of f n u w b
  at_place w b h k =
      ap (λ x. get_or u x 0)
      (table_at before (mode_place f n) (4 * mode_run f) enough made (0 + (w * 4 + b)) (omega arith) ∙ ap (mode_place f n) (zero-add (w * 4 + b)))

  pub mode-values : {ws : List ℕ} → ws ≡ tabulate (λ w. value 4 (table_module 4 0 table u w)) m → ws ≡ mode_words_of f n u
  unfolding mode_words_of
  mode-values e = e ∙ ap (tabulate (λ w. value 4 (table_module 4 0 table u w))) all ∙ values_same 4 (mode_run f) _ _ at_place

  pub mode-marks : {ms : List ℕ} → ms ≡ tabulate (λ w. unread 4 (table_module 4 0 table u w)) m → ms ≡ mode_marks_of f n u
  unfolding mode_marks_of
  mode-marks e = e ∙ ap (tabulate (λ w. unread 4 (table_module 4 0 table u w))) all ∙ marks-same 4 (mode_run f) _ _ at_place

module _ (f : Bool) (L : ℕ) (u before : List ℕ) (enough : bits f L ≤ length before) {table : List ℕ} (made : table ≡ writes before (λ k. k) (data_place f L) (bits f L)) {size skip m : ℕ} (sized : size ≡ word_size L) (skips : skip ≡ skipped f L) (all : m ≡ words f L) where
  at-data-place : (w b : ℕ) → w < words f L → b < word_size L → table_module (word_size L) (skipped f L) table u w b ≡ block_module_of f L u w b
  at-data-place w b h k =
      ap (λ x. get_or u x 0) (table_at before (data_place f L) (bits f L) enough made _ (block-index f L w b h k))

  pub block-values : {ws : List ℕ} → ws ≡ tabulate (λ w. value size (table_module size skip table u w)) m → ws ≡ block_words_of f L u
  unfolding block_words_of
  block-values e =
      e
      ∙ ap (tabulate (λ w. value size (table_module size skip table u w))) all
      ∙ ap₂ (λ (size skip : ℕ). tabulate (λ w. value size (table_module size skip table u w)) (words f L)) sized skips
      ∙ values_same (word_size L) (words f L) _ _ at-data-place

  pub block-marks : {ms : List ℕ} → ms ≡ tabulate (λ w. unread size (table_module size skip table u w)) m → ms ≡ block_marks_of f L u
  unfolding block_marks_of
  block-marks e =
      e
      ∙ ap (tabulate (λ w. unread size (table_module size skip table u w))) all
      ∙ ap₂ (λ (size skip : ℕ). tabulate (λ w. unread size (table_module size skip table u w)) (words f L)) sized skips
      ∙ marks-same (word_size L) (words f L) _ _ at-data-place
