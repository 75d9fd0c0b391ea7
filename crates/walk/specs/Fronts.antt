-- What a caller of the walk has in hand where a block says a message: a layout, and the block's words at the fronts of the buffers.
-- Assumes nothing.
use Rattle.std.specs.Prelude.{◌≡◌, List, ℕ, take}
use Rattle.std.proofs.Math.Path.{sym}
use Rattle.std.proofs.Common.{ap, ◌∙◌}
use Rattle.std.proofs.Math.Option.{some}
use Rattle.std.proofs.Math.ListN.{length}
use Rattle.list_laws.specs.Filled.{length-tabulate}
use Rattle.block_code.specs.NearestLaws.{some_near}
use Rattle.symbol.specs.Shapes.{words}
use Rattle.recovery.specs.Stages.{block_words_in}
use Rattle.walk.specs.Walk.{Layout, Walk, reading_of, nearest_block, stream_walk, found_walk, unread_in, walk_of, Left}
use Rattle.walk.specs.Saying.{SaysMessage}
use Rattle.walk.specs.Ends.{Sampled, Message, sampled-walk}

module _ (g : List ℕ) (n : ℕ) (l : Layout) where
  -- each list of a block has as many words as the shape
  received-size : {received unread : List ℕ} → Sampled g n l received unread → length received ≡ words l.full l.layers
  unfolding block_words_in
  received-size s = sym (ap length s.received_is) ∙ length-tabulate _ (words l.full l.layers)

  unread-size : {received unread : List ℕ} → Sampled g n l received unread → length unread ≡ words l.full l.layers
  unfolding unread_in
  unread-size s = sym (ap length s.unread-is) ∙ length-tabulate _ (words l.full l.layers)

  found-size : {received unread found : List ℕ} → Sampled g n l received unread → nearest_block l received unread ≡ some found
      → length found ≡ words l.full l.layers
  found-size s e = (some_near _ _ _ _ _ e).size ∙ received-size s

  -- the fronts of the buffers are the block's words
  pub fronts : {bytes c : ℕ} (w : Walk) (received unread found : List ℕ)
      → Message g n l bytes w.received w.unread w.found w.text
      → Left w received unread found → c ≡ words l.full l.layers
      → Message g n l bytes (take c received) (take c unread) (take c found) w.text
  fronts {bytes} {c} w received unread found m left e = rw (front-received, front-unread, front-found) m
    where
      front-received : take c received ≡ w.received
      front-received = ap (λ k. take k received) (e ∙ sym (received-size m.sampled)) ∙ left.received-left

      front-unread : take c unread ≡ w.unread
      front-unread = ap (λ k. take k unread) (e ∙ sym (unread-size m.sampled)) ∙ left.unread-left

      front-found : take c found ≡ w.found
      front-found = ap (λ k. take k found) (e ∙ sym (found-size m.sampled m.block-is)) ∙ left.found_left

  module _ {bytes : ℕ} {received unread found text : List ℕ} (m : Message g n l bytes received unread found text) where
    pub message-says : SaysMessage (reading_of l found) bytes
    message-says = record { text = text; is = m.message-is; size = m.size }

    -- what the caller judges is the walk's end
    pub message-judged : stream_walk l received unread found (reading_of l found) ≡ walk_of g n
    message-judged = sym (sampled-walk g n m.sampled ∙ ap (found_walk l received unread) m.block-is)
