-- A tag made, put in a position, changed and read (document 01, "Demand 3's words"), and what demand 3 says of the answer.
-- Assumes nothing.
use Rattle.std.specs.Prelude.{◌≡◌, ◌≢◌, cond, List, ℕ, ◌*◌, ◌%◌, ◌≤◌, eqb, length, take}
use Rattle.std.proofs.Math.Path.{refl, sym, ap, ap₂}
use Rattle.std.proofs.Common.{◌∙◌, eq-eqb, ne_eqb}
use Rattle.stream.specs.Below.{Bytes}
use Rattle.symbol.specs.Positions.{placed}
use Rattle.encoder.specs.declared.Encoded.{Encoded}
use Rattle.encoder.specs.Plan.{plan_of}
use Rattle.encoder.specs.Encode.{encode_of}
use Rattle.decoder.specs.declared.Decoded.{Decoded}
use Rattle.decoder.specs.Decode.{Result, refused, decode_of}
use Rattle.reading_back.specs.ReadsBack.{made_tag, Shows, read_back}
use Rattle.reading_back.proofs.ReadsBack.{reads-back}
use Rattle.round_trip.specs.Changes.{damaged}
use Rattle.round_trip.specs.MadeTag.{made-front}

module _ (message : List ℕ) (percent p : ℕ) (changes : List ℕ) where
  -- the made tag in position p, as the reader is given it
  unfoldable pub shown : List ℕ
  shown = damaged (made_tag message percent p) changes

  -- the reader's answer and its buffer afterwards, or the maker's number with zeros, and the buffer as it was
  unfoldable pub round_trip_in : List ℕ → Result
  round_trip_in read =
      let plan = plan_of message percent in
      cond (eqb plan.number 0) (decode_of shown plan.side read) (refused plan.number read)

  -- demand 3 of an answer and the buffer after it: within its premises, and with room, they are those due
  abbrev pub ReadsBack : List ℕ → Decoded → List ℕ → Type 0
  ReadsBack read answer after =
      Shows message percent p shown → length message ≤ length read
      → (answer ≡ (read_back message percent p shown read).answer) × (after ≡ (read_back message percent p shown read).message)

-- the position is counted from 0 again after 7
abbrev pub round_trip_of : List ℕ → ℕ → ℕ → List ℕ → List ℕ → Result
round_trip_of message percent position = round_trip_in message percent (position % 8)

module _ (message : List ℕ) (percent p : ℕ) (changes read : List ℕ) where
  abbrev trip : Result
  trip = round_trip_in message percent p changes read

  pub trip-refused : (plan_of message percent).number ≢ 0 → trip ≡ refused (plan_of message percent).number read
  unfolding round_trip_in
  trip-refused h = rw (ne_eqb (plan_of message percent).number 0 h) refl

  trip-made : (plan_of message percent).number ≡ 0 → trip ≡ decode_of (shown message percent p changes) (plan_of message percent).side read
  unfolding round_trip_in
  trip-made e = rw (eq-eqb (plan_of message percent).number 0 e) refl

  -- THE THEOREM: reads-back, of a tag that was made, placed and changed
  pub trip-reads-back : Bytes message → ReadsBack message percent p changes read trip.answer trip.message
  trip-reads-back x s room =
      let e = trip-made s.made ∙ reads-back message percent x s read room in
      (ap (λ r. r.answer) e, ap (λ r. r.message) e)

  -- the answer that follows from the encoder's, with room for any shape
  pub trip-read : (x : Bytes message) (grid : List ℕ) → 22801 ≤ length grid → (plan_of message percent).number ≡ 0
      → (a : Encoded) → a ≡ plan_of message percent → (g : List ℕ) → g ≡ (encode_of message percent grid).grid
      → decode_of (damaged (placed a.side p (take (a.side * a.side) g)) changes) a.side read ≡ trip
  unfolding shown made_tag
  trip-read x grid room made a is g from =
      ap₂ (λ a g. decode_of (damaged (placed a.side p (take (a.side * a.side) g)) changes) a.side read) is from
      ∙ ap (λ u. decode_of (damaged (placed (plan_of message percent).side p u) changes) (plan_of message percent).side read)
      (made-front message percent x grid room made)
      ∙ sym (trip-made made)
