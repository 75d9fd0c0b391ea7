-- Demand 3's second half: a grid that shows the made tag is read as the message.
-- Assumes nothing.
use Rattle.std.specs.Prelude.{◌≡◌, Bool, not, List, ◌++◌, eqb, get_or, replicate}
use Rattle.std.proofs.Common.{sym, ◌∙◌, arith}
use Rattle.std.proofs.Math.Path.{ap, subst}
use Prim.Native.Nat.{ℕ, ◌*◌, ◌≤◌}
use Rattle.std.proofs.Math.ListN.{length, drop}
use Rattle.list_laws.specs.Range.{count}
use Rattle.stream.specs.Below.{Bytes}
use Rattle.symbol.specs.Shapes.{side}
use Rattle.symbol.specs.Places.{orientation_place}
use Rattle.symbol.specs.Drawing.{symbol}
use Rattle.symbol.specs.Positions.{place_in, placed}
use Rattle.encoder.specs.Plan.{plan_of}
use Rattle.encoder.specs.ModeMessage.{mode_checks, mode_codewords}
use Rattle.encoder.specs.Encode.{block, encode_of}
use Rattle.encoder.specs.EncodeLaws.{Answered}
use Rattle.recovery.specs.Stages.{mode_words_in, mode_marks_in, block_words_in, block_marks_in, unread_words, wrong_words}
use Rattle.decoder.specs.Decode.{Result, decode_of}
use Rattle.reading_back.specs.Within.{Within}
use Rattle.reading_back.specs.ReadsBack as back
use Rattle.reading_back.proofs.DamagedTag.{tag_read}

module _ (message : List ℕ) (percent : ℕ) where
  abbrev full : Bool
  full = back.full message percent

  abbrev L : ℕ
  L = back.L message percent

  abbrev n : ℕ
  n = back.n message percent

  abbrev D : ℕ
  D = back.D message percent

  abbrev K : ℕ
  K = back.K message percent

  abbrev made_tag : ℕ → List ℕ
  made_tag = back.made_tag message percent

  abbrev spoilt : ℕ → List ℕ → ℕ
  spoilt = back.spoilt message percent

  abbrev Shows : ℕ → List ℕ → Type 0
  Shows = back.Shows message percent

  abbrev read_back : ℕ → List ℕ → List ℕ → Result
  read_back = back.read_back message percent

  module _ (x : Bytes message) {p : ℕ} {g : List ℕ} (s : Shows p g) where
    abbrev answer : Answered message (plan_of message percent)
    answer = back.known message percent x s.made

    -- THE THEOREM
    pub reads-back : (buffer : List ℕ) → length message ≤ length buffer → decode_of g n buffer ≡ read_back p g buffer
    unfolding back.read_back back.spoilt back.made_tag
    reads-back buffer space =
        subst (λ m. decode_of g m buffer ≡ read_back p g buffer) (sym answer.side-is)
        (tag_read message x full L D answer.fits answer.large p s.position g orientation buffer
        (s.size ∙ ap (λ m. m * m) answer.side-is) s.modules
        (subst (λ m. Within (mode_checks full) (mode_words_in full m p g) (mode_marks_in full m p g) (mode_codewords full L D)) answer.side-is s.mode)
        (subst (λ k. Within k (block_words_in full L p g) (block_marks_in full L D p g) (block message full L)) answer.checks-are s.data-block)
        space
        ∙ ap (λ k. shaped k) answer.number_is)
      where
        shaped : ℕ → Result
        shaped k =
            record {
              answer =
                  record {
                    number = 0;
                    length = length message;
                    shape = k;
                    position = p;
                    unread = unread_words full L p g;
                    wrong = wrong_words full L p g (block message full L);
                  };
              message = message ++ drop (length message) buffer;
            }

        -- how many are spoilt, in a symbol of side m
        in_symbol : ℕ → List ℕ → ℕ
        in_symbol m upright =
            count 12 (λ k. let at = place_in m p (orientation_place full m k) in not (eqb (get_or g at 0) (get_or (placed m p upright) at 0)))

        orientation : in_symbol (side full L) (symbol full L (mode_codewords full L D) (block message full L)) ≤ 1
        orientation =
            subst (λ u. in_symbol (side full L) u ≤ 1) (back.made-symbol message percent x s.made)
            (subst (λ m. in_symbol m (encode_of message percent (replicate (n * n) 0)).grid ≤ 1) answer.side-is
            (omega (arith, s.orientation)))
