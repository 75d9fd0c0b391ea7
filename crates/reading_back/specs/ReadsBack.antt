-- Demand 3's last two sentences (document 01, "Demand 3's words"): a made tag is read back, whatever happened to its modules and in each
-- of the eight positions, if there is room, at most one of the twelve orientation modules is wrong or unread, and both the mode words and
-- the block are within the limit.
-- Assumes nothing.
use Rattle.std.specs.Prelude.{◌≡◌, refl, Bool, not, List, ◌++◌, eqb, get_or, replicate}
use Rattle.std.proofs.Common.{sym, ◌∙◌, le_refl}
use Rattle.std.proofs.Math.Path.{ap, ap₂, subst}
use Prim.Native.Nat.{ℕ, ◌*◌, ◌≤◌, ◌<◌}
use Rattle.std.proofs.Math.ListN.{length, drop}
use Rattle.std.proofs.lemmas.List.{length-replicate}
use Rattle.list_laws.specs.Range.{count}
use Rattle.stream.specs.Below.{Bytes}
use Rattle.symbol.specs.Shapes.{is_full, layers}
use Rattle.symbol.specs.Places.{orientation_place}
use Rattle.symbol.specs.Drawing.{drawn, symbol}
use Rattle.symbol.specs.Positions.{place_in, placed}
use Rattle.encoder.specs.Plan.{plan_of}
use Rattle.encoder.specs.ModeMessage.{mode_checks, mode_codewords}
use Rattle.encoder.specs.Encode.{block, drawn_message, encode_of}
use Rattle.encoder.specs.EncodeLaws.{encode-made, Answered, answered}
use Rattle.recovery.specs.Stages.{mode_words_in, mode_marks_in, block_words_in, block_marks_in, unread_words, wrong_words}
use Rattle.decoder.specs.Decode.{Result}
use Rattle.reading_back.specs.Within.{Within}

module _ (message : List ℕ) (percent : ℕ) where
  -- the shape that the encoder takes: family, layers, side, D and K
  abbrev pub full : Bool
  full = is_full (plan_of message percent).shape

  abbrev pub L : ℕ
  L = layers (plan_of message percent).shape

  abbrev pub n : ℕ
  n = (plan_of message percent).side

  abbrev pub D : ℕ
  D = (plan_of message percent).data_words

  abbrev pub K : ℕ
  K = (plan_of message percent).check_words

  -- "demand 2's symbol for a message and percentage … put in one of the eight positions"
  unfoldable pub made_tag : ℕ → List ℕ
  made_tag p = placed n p (encode_of message percent (replicate (n * n) 0)).grid

  -- the orientation modules that are wrong or unread
  unfoldable pub spoilt : ℕ → List ℕ → ℕ
  spoilt p g = count 12 (λ k. let at = place_in n p (orientation_place full n k) in not (eqb (get_or g at 0) (get_or (made_tag p) at 0)))

  -- a grid that shows the made tag in position p, within demand 3's premises
  pub record Shows (p : ℕ) (g : List ℕ) : Type 0 where
    pub made : (plan_of message percent).number ≡ 0
    pub position : p < 8
    pub size : length g ≡ n * n
    pub modules : (k : ℕ) → k < length g → get_or g k 0 ≤ 2
    pub orientation : spoilt p g ≤ 1
    pub mode : Within (mode_checks full) (mode_words_in full n p g) (mode_marks_in full n p g) (mode_codewords full L D)
    pub data-block : Within K (block_words_in full L p g) (block_marks_in full L D p g) (block message full L)

  -- "The reader's answer is then 0, with exactly that message and its length, the made shape, the position the tag is in, and the two counts"
  unfoldable pub read_back : ℕ → List ℕ → List ℕ → Result
  read_back p g buffer =
      record {
        answer =
            record {
              number = 0;
              length = length message;
              shape = (plan_of message percent).shape;
              position = p;
              unread = unread_words full L p g;
              wrong = wrong_words full L p g (block message full L);
            };
        message = message ++ drop (length message) buffer;
      }

  module _ (x : Bytes message) (made : (plan_of message percent).number ≡ 0) where
    pub known : Answered message (plan_of message percent)
    known = answered message percent x (plan_of message percent) refl made

    -- the encoder's grid is the symbol of the message's mode words and block
    pub made-symbol : (encode_of message percent (replicate (n * n) 0)).grid ≡ symbol full L (mode_codewords full L D) (block message full L)
    unfolding drawn_message symbol
    made-symbol =
        ap (λ r. r.grid) (encode-made message percent (replicate (n * n) 0) made room)
        ∙ ap₂ (λ d m. drawn full L (mode_codewords full L d) (block message full L) (replicate (m * m) 0)) (sym known.fits.count) known.side-is
      where
        room : n * n ≤ length {A = ℕ} (replicate (n * n) 0)
        room = subst (λ k. n * n ≤ k) (sym (length-replicate {A = ℕ} (n * n) 0)) (le_refl _)
