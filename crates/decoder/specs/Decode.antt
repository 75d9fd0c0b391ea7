-- What the decoder answers, and the message buffer afterwards (document 01, "How a grid is read" and numbers 11 to 21): a view of how the
-- walk over the grid ends.
-- Assumes nothing.
use Rattle.std.specs.Prelude
use Rattle.std.specs.Prelude.{Ok, Err, cond, [], List, ◌++◌, ℕ, leb, length, drop}
use Rattle.block_code.specs.Nearest.{differ}
use Rattle.block_code.specs.Nearest as code
use Rattle.symbol.specs.Shapes as shape
use Rattle.walk.specs.Walk.{Layout, Outcome, Walk, refusal_number, walk_of}
use Rattle.decoder.specs.declared.Decoded.{Decoded}
use Rattle.decoder.specs.declared.Refusal.{Refusal}
use Rattle.decoder.specs.declared.Refusal.TheVariants.{Grid, Room}

pub record Result : Type 0 where
  pub answer : Decoded
  pub message : List ℕ

-- "Any other number comes with zeros in every other field and untouched buffers"
abbrev pub refused : ℕ → List ℕ → Result
refused k buffer =
    record { answer = record { number = k; length = 0; shape = 0; position = 0; unread = 0; wrong = 0 }; message = buffer }

-- the answer that a message, or a refusal, is
abbrev pub answered : Prelude.Result Decoded Refusal → Decoded
answered (Ok decoded) = decoded
answered (Err (Grid refusal)) = (refused (refusal_number refusal) []).answer
answered (Err Room) = (refused 21 []).answer

module _ (buffer : List ℕ) (w : Walk) where
  -- a message of n bytes: "The first bytes of the message buffer are the message; the rest keep their bytes". The two counts: "words with an
  -- unread module, and fully read words that differ from the block found"
  abbrev pub delivered : Layout → ℕ → Result
  delivered l n =
      record {
        answer =
            record {
              number = 0;
              length = n;
              shape = shape.number_of l.full l.layers;
              position = l.position;
              unread = code.unread w.unread;
              wrong = differ w.received w.unread w.found;
            };
        message = w.text ++ drop n buffer;
      }

  -- by the number of each outcome; 21: "message buffer too short"
  abbrev pub answer_by : Outcome → Result
  answer_by (Ok m) = cond (leb m.bytes (length buffer)) (delivered m.layout m.bytes) (refused 21 buffer)
  answer_by (Err refusal) = refused (refusal_number refusal) buffer

  abbrev pub answer_of : Result
  answer_of = answer_by w.outcome

unfoldable pub decode_of : List ℕ → ℕ → List ℕ → Result
decode_of g n buffer = answer_of buffer (walk_of g n)
