-- The decoder's answer by how the walk ends: a refusal's number, or the message if it has room.
-- Assumes nothing.
use Rattle.std.specs.Prelude.{◌≡◌, Ok, Err, refl, ◌≢◌, Bool, List, ◌++◌}
use Rattle.std.proofs.Math.Path.{ap, ap₂}
use Rattle.std.proofs.Common.{◌∙◌, le-leb}
use Rattle.std.proofs.Math.Bool.{cond}
use Prim.Native.Nat.{ℕ, ◌≤◌, ◌<◌}
use Rattle.std.proofs.Math.ListN.{length, drop}
use Rattle.std.proofs.lemmas.Bool.{lt-leb}
use Rattle.block_code.specs.Nearest.{differ}
use Rattle.block_code.specs.Nearest as code
use Rattle.stream.specs.Items as items
use Rattle.symbol.specs.Shapes as shape
use Rattle.recovery.specs.Stages.{block_words_in, unread_words, wrong_words}
use Rattle.walk.specs.Saying.{SaysMessage}
use Rattle.walk.specs.Walk.{Layout, Outcome, Walk, says, number_of, stream_walk, layout_of, unread_in}
use Rattle.walk.specs.Ends.{Message, message-walk}
use Rattle.walk.specs.BlockIn.{unread-in, wrong-in}
use Rattle.decoder.specs.Decode.{Result, refused, delivered, answer_by, answer_of, decode_of}

-- an outcome that says no message is refused by its number
pub no-message : (buffer : List ℕ) (w : Walk) (o : Outcome) → ((l : Layout) (n : ℕ) → o ≢ says l n)
    → answer_by buffer w o ≡ refused (number_of o) buffer
no-message buffer w (Ok m) h = absurd (h m.layout m.bytes refl)
no-message buffer w (Err refusal) h = refl

-- the room decides between the message and 21
module _ (buffer : List ℕ) (l : Layout) (received unread found : List ℕ) {r : items.Reading} {n : ℕ} (s : SaysMessage r n) where
  abbrev said : Walk
  said = record { outcome = says l n; received = received; unread = unread; found = found; text = s.text }

  said-is : stream_walk l received unread found r ≡ said
  said-is =
      ap (stream_walk l received unread found) s.is
      ∙ ap (λ k. record { outcome = says l k; received = received; unread = unread; found = found; text = s.text }) s.size

  pub deliver-short : length buffer < n → answer_of buffer (stream_walk l received unread found r) ≡ refused 21 buffer
  deliver-short h =
      ap (answer_of buffer) said-is ∙ ap (λ b. cond b (delivered buffer said l n) (refused 21 buffer)) (lt-leb n (length buffer) h)

  pub deliver-made : n ≤ length buffer → answer_of buffer (stream_walk l received unread found r) ≡ delivered buffer said l n
  deliver-made h =
      ap (answer_of buffer) said-is ∙ ap (λ b. cond b (delivered buffer said l n) (refused 21 buffer)) (le-leb n (length buffer) h)

-- Over a grid

module _ (g : List ℕ) (n : ℕ) (buffer : List ℕ) where
  -- THE LAW of reading back: where every stage passes and the message has room, the answer is that message, with the counts of the grid
  pub message-read : {f : Bool} {L p D : ℕ} {found text : List ℕ}
      → Message g n (layout_of f L p D) (length text) (block_words_in f L p g) (unread_in f L p g) found text
      → length text ≤ length buffer
      → decode_of g n buffer
      ≡ record {
        answer =
            record {
              number = 0;
              length = length text;
              shape = shape.number_of f L;
              position = p;
              unread = unread_words f L p g;
              wrong = wrong_words f L p g found;
            };
        message = text ++ drop (length text) buffer;
      }
  unfolding decode_of
  message-read {f} {L} {p} {D} {found} {text} m room =
      ap (answer_of buffer) (message-walk g n m)
      ∙ ap (λ b. cond b (with (code.unread (unread_in f L p g)) (differ (block_words_in f L p g) (unread_in f L p g) found)) (refused 21 buffer))
      (le-leb (length text) (length buffer) room)
      ∙ ap₂ with (unread-in f L p g) (wrong-in f L p g found)
    where
      with : ℕ → ℕ → Result
      with x y =
          record {
            answer = record { number = 0; length = length text; shape = shape.number_of f L; position = p; unread = x; wrong = y };
            message = text ++ drop (length text) buffer;
          }
