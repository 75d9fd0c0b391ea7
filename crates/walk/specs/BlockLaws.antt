-- The block's stage as the code meets it: lawful or not, found or not, and its words in the buffers.
-- Assumes nothing.
use Rattle.std.specs.Prelude.{◌≡◌, Some, true, false, List, ◌++◌, ℕ, ◌≤◌, length, take}
use Rattle.std.proofs.Common.{sym, ◌∙◌, subst, le_refl, arith, length-take, take_all}
use Rattle.std.proofs.Math.Path.{ap}
use Rattle.std.proofs.Math.Option.{none, some}
use Rattle.std.proofs.lemmas.List.{take-append-le}
use Rattle.stream.specs.Items as items
use Rattle.recovery.specs.declared.said.Failed.{Failed}
use Rattle.recovery.specs.Stages.{lawful_mode}
use Rattle.recovery.specs.FailedMode.{failed_conditions, lawful-none, unlawful-some}
use Rattle.walk.specs.declared.Refusal.TheVariants.{Unlawful, Uncorrected, Faulty}
use Rattle.walk.specs.Walk.{Layout, Walk, ended, reading_of, checks, erasures, nearest_block, stream_walk, found_walk, block_walk, lawful_by, lawful_walk}
use Rattle.walk.specs.Walk.{Left, ended-left}

module _ (l : Layout) (received unread : List ℕ) where
  pub walk-lawful : (n : ℕ) → lawful_mode l.full n l.layers l.data_words ≡ true
      → lawful_walk l received unread n ≡ block_walk l received unread
  unfolding lawful_walk
  walk-lawful n e = ap (lawful_by l received unread) (lawful-none l.full n l.layers l.data_words e)

  pub walk-failed : (n : ℕ) {failed : Failed} → failed_conditions l.full n l.layers l.data_words ≡ Some failed
      → lawful_walk l received unread n ≡ ended (Unlawful failed)
  unfolding lawful_walk
  walk-failed n e = ap (lawful_by l received unread) e

  pub walk-unlawful : (n : ℕ) (e : lawful_mode l.full n l.layers l.data_words ≡ false)
      → lawful_walk l received unread n ≡ ended (Unlawful (unlawful-some l.full n l.layers l.data_words e).0)
  walk-unlawful n e = walk-failed n (unlawful-some l.full n l.layers l.data_words e).1

  pub block-found : (found : List ℕ) → nearest_block l received unread ≡ some found
      → block_walk l received unread ≡ stream_walk l received unread found (reading_of l found)
  unfolding block_walk
  block-found found e = ap (found_walk l received unread) e

  pub block_none : nearest_block l received unread ≡ none
      → block_walk l received unread ≡ ended (Uncorrected (erasures l received unread) (checks l))
  unfolding block_walk
  block_none e = ap (found_walk l received unread) e

  -- buffers of exactly the block's words
  stream-left : (found : List ℕ) (r : items.Reading) → Left (stream_walk l received unread found r) received unread found
  stream-left found (items.message text) =
      record {
        received-left = take_all _ received (le_refl _);
        unread-left = take_all _ unread (le_refl _);
        found_left = take_all _ found (le_refl _);
      }
  stream-left found (items.refused x bit) = ended-left (Faulty (record { fault = x; bit = bit })) received unread found

  pub block-left : {r u : List ℕ} (found : List ℕ) → r ≡ received → u ≡ unread → nearest_block l received unread ≡ some found
      → Left (block_walk l received unread) r u found
  block-left {r} {u} found p q e =
      subst (λ w. Left w r u found) (sym (block-found found e)) (rw (p, q) (stream-left found (reading_of l found)))

  pub none_left : (r u found : List ℕ) → nearest_block l received unread ≡ none → Left (block_walk l received unread) r u found
  none_left r u found e = subst (λ w. Left w r u found) (sym (block_none e)) (ended-left _ r u found)

-- buffers whose fronts were lent
longer : (x r a : List ℕ) → take (length x) r ≡ x → take (length x) (r ++ a) ≡ x
longer x r a e = take-append-le (length x) r a (subst (λ y. length y ≤ length r) e (rw length-take (omega arith))) ∙ e

pub left-longer : (w : Walk) (r u s a b c : List ℕ) → Left w r u s → Left w (r ++ a) (u ++ b) (s ++ c)
left-longer w r u s a b c h =
    record {
      received-left = longer w.received r a h.received-left;
      unread-left = longer w.unread u b h.unread-left;
      found_left = longer w.found s c h.found_left;
    }
