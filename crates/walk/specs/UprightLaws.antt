-- What is read from the grid turned upright is what Walk reads from the grid.
-- Assumes nothing.
use Rattle.std.specs.Prelude.{◌≡◌, Bool, List, ℕ, ◌*◌, ◌≤◌, ◌<◌, length}
use Rattle.std.proofs.Math.Path.{refl, sym, ap₂}
use Rattle.std.proofs.Common.{ap, ◌∙◌}
use Rattle.std.proofs.Math.Bool.{true, false}
use Rattle.std.proofs.Math.Option.{Option, none, some}
use Rattle.list_laws.specs.Writes.{writes}
use Rattle.finite_field.specs.Field.{size_of}
use Rattle.block_code.specs.Nearest.{nearest}
use Rattle.symbol.specs.Shapes.{core, Shaped}
use Rattle.symbol.specs.GridWords.{module_at}
use Rattle.sampling.specs.Sampled.{block_words_of, block_marks_of}
use Rattle.sampling.specs.Sampled.{mode-words-upright, mode-marks-upright, block-words-upright, block-marks-upright}
use Rattle.encoder.specs.ModeMessage.{mode_checks}
use Rattle.recovery.specs.Stages.{mode_words_in, mode_marks_in, mode_in, said_layers, said_words, lawful_mode, block_words_in}
use Rattle.recovery.specs.FailedMode.{unlawful-some}
use Rattle.recovery.specs.Said.{said-shaped}
use Rattle.recovery.specs.LawfulWords.{found-nibbles}
use Rattle.walk.specs.Walk.{lawful_walk, layout_of, unread_in, shape_walk, mode_walk, place_walk}
use Rattle.walk.specs.BlockLaws.{walk-failed}
use Rattle.walk.specs.Upright.{said_of, mode_of, said_walk, upright_walk, lawful-parts}

module _ (n p : ℕ) (g before : List ℕ) (room : n * n ≤ length before) {u : List ℕ}
    (made : u ≡ writes before (λ k. k) (module_at n p g) (n * n)) (f : Bool) (wide : 2 * core f < n) where
  mode-same : mode_of u f n ≡ mode_in f n p g
  unfolding mode_in mode_words_in mode_marks_in
  mode-same =
      ap₂ (nearest (size_of 4) (mode_checks f) (mode_checks f)) (mode-words-upright n p g before room made f wide)
      (mode-marks-upright n p g before room made f wide)

  -- of a lawful shape the block's words and marks are the same, and of another nothing is read
  shape_same : (L D : ℕ) → Shaped f L → lawful_walk (layout_of f L p D) (block_words_of f L u) (block_marks_of f L u) n ≡ shape_walk g f n p L D
  unfolding block_words_in unread_in
  shape_same L D sh = go (lawful_mode f n L D) refl
    where
      go : (b : Bool) → lawful_mode f n L D ≡ b
          → lawful_walk (layout_of f L p D) (block_words_of f L u) (block_marks_of f L u) n ≡ shape_walk g f n p L D
      go true e =
          let is = sym (lawful-parts f n L D e).0 in
          ap₂ (λ r m. lawful_walk (layout_of f L p D) r m n) (block-words-upright n p g before room made f L sh is)
          (block-marks-upright n p g before room made f L sh is)
      go false e =
          let x = unlawful-some f n L D e in
          walk-failed (layout_of f L p D) (block_words_of f L u) (block_marks_of f L u) n x.1
          ∙ sym (walk-failed (layout_of f L p D) (block_words_in f L p g) (unread_in f L p g) n x.1)

  -- the whole walk from mode words on
  pub upright-same : upright_walk u f n p ≡ place_walk g f n (some p)
  upright-same = go (mode_of u f n) refl ∙ ap (mode_walk g f n p) mode-same
    where
      go : (o : Option (List ℕ)) → mode_of u f n ≡ o → said_walk u f n p (said_of f o) ≡ mode_walk g f n p o
      go none e = refl
      go (some ms) e = shape_same (said_layers f ms) (said_words f ms) (said-shaped f ms (found-nibbles _ _ _ ms e))
