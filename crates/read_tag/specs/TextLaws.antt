-- The two cases of an input, and that a message fits its buffer.
-- Assumes nothing.
use Rattle.std.proofs.Math.Path.{◌≡◌, sym, subst, ap}
use Rattle.std.specs.Prelude.{List, eqb, Option, Some, None}
use Prim.Native.Nat.{ℕ, zero, suc, ◌+◌, ◌*◌, ◌/◌, ◌≤◌}
use Rattle.std.proofs.Common.{mul-le-mul}
use Rattle.std.proofs.Math.ListN.{length}
use Rattle.decoder.specs.declared.Decoded.{Decoded}
use Rattle.decoder.specs.Kept.{Kept, refused-kept, pick, decode-kept}
use Rattle.grid_text.specs.Border.{inner_side, inner, light_ring}
use Rattle.grid_text.specs.Grid.{modules_of}
use Rattle.read_tag.specs.Within.{told_at, read_inside, read_from, read_within}
use Rattle.read_tag.specs.Text.{text_side, text_result, reading_at, reading_of, message_at, message_of}

module _ (g : List ℕ) (side : ℕ) (buffer : List ℕ) where
  from-kept : (n rings before : ℕ) → Kept buffer (read_from g side buffer n rings before)
  unfolding read_from
  from-kept zero rings before = refused-kept before buffer
  from-kept (suc n) rings before =
      pick (eqb (read_inside g side buffer rings).answer.number 0) (λ e. decode-kept (inner g side rings) buffer (inner_side side rings))
      (pick (light_ring g side rings) (λ e. from-kept n (rings + 1) (told_at g side buffer before rings))
      (refused-kept (told_at g side buffer before rings) buffer))

  within-kept : Kept buffer (read_within g side buffer)
  unfolding read_within
  within-kept = from-kept ((side + 1) / 2) 0 11

module _ (bytes buffer : List ℕ) where
  pub no-grid : text_side bytes ≡ None → (None ≡ reading_of bytes buffer) × (buffer ≡ message_of bytes buffer)
  unfolding reading_of message_of
  no-grid e = (sym (ap (λ o. reading_at o bytes buffer) e), sym (ap (λ o. message_at o bytes buffer) e))

  pub tag_read : (side : ℕ) → text_side bytes ≡ Some side
      → (Some (text_result bytes side buffer).answer ≡ reading_of bytes buffer)
      × ((text_result bytes side buffer).message ≡ message_of bytes buffer)
  unfolding reading_of message_of
  tag_read side e = (sym (ap (λ o. reading_at o bytes buffer) e), sym (ap (λ o. message_at o bytes buffer) e))

  pub message-fits : (d : Decoded) → Some d ≡ reading_of bytes buffer → d.length ≤ length buffer
  unfolding reading_of
  message-fits d = go (text_side bytes)
    where
      go : (o : Option ℕ) → Some d ≡ reading_at o bytes buffer → d.length ≤ length buffer
      go None e = absurd (cc)
      go (Some side) e =
          let same : d ≡ (text_result bytes side buffer).answer = cc in
          subst (λ a. a.length ≤ length buffer) (sym same) (within-kept (modules_of bytes) side buffer).fits

pub square-most : (n : ℕ) → n ≤ 255 → n * n ≤ 65025
square-most n h = mul-le-mul h h
