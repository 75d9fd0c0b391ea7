-- What is left of demand 3's premises for a tag that was made, placed and changed: its size, its position and modules of 0, 1 or 2 are no
-- question any more.
-- Assumes nothing.
use Rattle.std.specs.Prelude.{◌≡◌, refl, Bool, true, false, cond, leb, length, get_or}
use Rattle.std.proofs.Common.{sym, ◌∙◌, leb-true}
use Rattle.std.proofs.Math.Path.{subst}
use mathlib.Core.List.{List}
use Prim.Native.Nat.{ℕ, ◌≤◌, ◌<◌}
use Rattle.list_laws.specs.Filled.{length-tabulate, get_or-tabulate}
use Rattle.stream.specs.Below.{Bytes}
use Rattle.encoder.specs.Plan.{plan_of}
use Rattle.encoder.specs.ModeMessage.{mode_checks, mode_codewords}
use Rattle.encoder.specs.Encode.{block}
use Rattle.recovery.specs.Stages.{mode_words_in, mode_marks_in, block_words_in, block_marks_in}
use Rattle.reading_back.specs.Within.{Within}
use Rattle.reading_back.specs.ReadsBack.{full, L, n, D, K, made_tag, spoilt, Shows}
use Rattle.reading_back.proofs.Undamaged.{undamaged}
use Rattle.round_trip.specs.Changes.{changed_to, damaged}
use Rattle.round_trip.specs.RoundTrip.{shown}

changed-most : (was change : ℕ) → was ≤ 2 → changed_to was change ≤ 2
unfolding changed_to
changed-most was change h = go (leb change 2) refl
  where
    go : (b : Bool) → leb change 2 ≡ b → cond b change was ≤ 2
    go true e = leb-true change 2 e
    go false e = h

module _ (tag changes : List ℕ) where
  pub length-damaged : length (damaged tag changes) ≡ length tag
  unfolding damaged
  length-damaged = length-tabulate _ (length tag)

  pub damaged-most : ((k : ℕ) → k < length tag → get_or tag k 0 ≤ 2) → (k : ℕ) → k < length tag → get_or (damaged tag changes) k 0 ≤ 2
  unfolding damaged
  damaged-most h k l =
      subst (λ m. m ≤ 2) (sym (get_or-tabulate (λ k. changed_to (get_or tag k 0) (get_or changes k 3)) 0 (length tag) k l))
      (changed-most (get_or tag k 0) (get_or changes k 3) (h k l))

module _ (message : List ℕ) (percent p : ℕ) (changes : List ℕ) where
  abbrev f : Bool
  f = full message percent

  abbrev g : List ℕ
  g = shown message percent p changes

  pub shown-shows : Bytes message → (plan_of message percent).number ≡ 0 → p < 8 → spoilt message percent p g ≤ 1
      → Within (mode_checks f) (mode_words_in f (n message percent) p g) (mode_marks_in f (n message percent) p g)
      (mode_codewords f (L message percent) (D message percent))
      → Within (K message percent) (block_words_in f (L message percent) p g) (block_marks_in f (L message percent) (D message percent) p g)
      (block message f (L message percent))
      → Shows message percent p g
  unfolding shown
  shown-shows x made turned few mode-within block_Within =
      record {
        made = made;
        position = turned;
        size = size ∙ whole.size;
        modules = λ k h. damaged-most tag changes whole.modules k (subst (λ m. k < m) size h);
        orientation = few;
        mode = mode-within;
        data-block = block_Within;
      }
    where
      tag : List ℕ
      tag = made_tag message percent p

      whole : Shows message percent p tag
      whole = undamaged message percent x made p turned

      size : length (damaged tag changes) ≡ length tag
      size = length-damaged tag changes
