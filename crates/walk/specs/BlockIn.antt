-- The block that the walk finds is `block_in`, by the marks of `block_marks_in`, and its two counts are `unread_words` and `wrong_words`.
-- Assumes nothing.
use Rattle.std.specs.Prelude.{◌≡◌, Bool, ◌&&◌, ltb, get_or}
use Rattle.std.proofs.Math.Path.{ap, ap₂}
use Rattle.std.proofs.Common.{◌∙◌}
use Rattle.std.proofs.Math.Bool.{cond}
use mathlib.Core.List.{List}
use Prim.Native.Nat.{ℕ, ◌-◌}
use Rattle.list_laws.specs.Filled.{tabulate, length-tabulate, get_or-tabulate}
use Rattle.finite_field.specs.Field.{size_of}
use Rattle.block_code.specs.Nearest.{nearest, differ}
use Rattle.block_code.specs.Nearest as code
use Rattle.stream.specs.Stuffing.{flat}
use Rattle.symbol.specs.Shapes.{word_size, words}
use Rattle.symbol.specs.GridWords.{unread, block_module, block_word}
use Rattle.sampling.specs.Flat.{flat_marked}
use Rattle.sampling.specs.Sampled.{tabulate-same}
use Rattle.recovery.specs.Stages.{block_words_in, block_mark, block_marks_in, block_in, unread_words, wrong_words}
use Rattle.walk.specs.Counts.{unread-sampled, wrong-sampled}
use Rattle.walk.specs.Walk.{marks_of, nearest_block, layout_of, unread_in}

module _ (f : Bool) (L D p : ℕ) (g : List ℕ) where
  marks-in : marks_of (layout_of f L p D) (block_words_in f L p g) (unread_in f L p g) ≡ block_marks_in f L D p g
  unfolding flat_marked block_words_in unread_in block_marks_in block_mark
  marks-in =
      ap (tabulate (λ w. cond (ltb w D && flat (word_size L) (get_or ws w 0)) 1 (get_or ms w 0))) (length-tabulate _ (words f L))
      ∙ tabulate-same (words f L) _ _ (λ w h.
      ap₂ (λ x y. cond (ltb w D && flat (word_size L) x) 1 y) (get_or-tabulate (block_word f L p g) 0 (words f L) w h)
      (get_or-tabulate (λ w. unread (word_size L) (block_module f L p g w)) 0 (words f L) w h))
    where
      ws : List ℕ
      ws = tabulate (block_word f L p g) (words f L)

      ms : List ℕ
      ms = tabulate (λ w. unread (word_size L) (block_module f L p g w)) (words f L)

  pub nearest_in : nearest_block (layout_of f L p D) (block_words_in f L p g) (unread_in f L p g) ≡ block_in f L D p g
  unfolding block_in
  nearest_in = ap (nearest (size_of (word_size L)) (words f L - D) (words f L - D) (block_words_in f L p g)) marks-in

module _ (f : Bool) (L p : ℕ) (g : List ℕ) where
  pub unread-in : code.unread (unread_in f L p g) ≡ unread_words f L p g
  unfolding unread_in
  unread-in = unread-sampled f L p g

  pub wrong-in : (found : List ℕ) → differ (block_words_in f L p g) (unread_in f L p g) found ≡ wrong_words f L p g found
  unfolding block_words_in unread_in
  wrong-in found = wrong-sampled f L p g found
