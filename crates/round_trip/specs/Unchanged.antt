-- A tag that nothing happened to: whatever message fits is read back in every position, and both counts are 0.
-- Assumes nothing.
use Rattle.std.specs.Prelude.{◌≡◌, ℕ, ◌≤◌, ◌<◌, drop}
use Rattle.std.proofs.Common.{sym, ◌∙◌, arith}
use Rattle.std.proofs.Math.Path.{ap, ap₂, subst}
use mathlib.Core.List.{List, [], ◌∷◌, ◌++◌}
use Rattle.std.proofs.Math.ListN.{length}
use Rattle.stream.specs.Below.{Bytes}
use Rattle.encoder.specs.Plan.{plan_of}
use Rattle.decoder.specs.declared.Decoded.{Decoded}
use Rattle.reading_back.specs.ReadsBack.{made_tag, Shows, read_back}
use Rattle.reading_back.proofs.Undamaged.{undamaged, none-unread, none-wrong}
use Rattle.round_trip.specs.Changes.{damaged-none}
use Rattle.round_trip.specs.RoundTrip.{shown, round_trip_in, trip-reads-back}

module _ (message : List ℕ) (percent p : ℕ) where
  -- 0 with the message's length, the made shape, the position and two counts
  abbrev pub counted : ℕ → ℕ → Decoded
  counted u w =
      record { number = 0; length = length message; shape = (plan_of message percent).shape; position = p; unread = u; wrong = w }

  -- what is due for an undamaged tag: no word is unread or wrong
  abbrev pub untouched : Decoded
  untouched = counted 0 0

  -- what is promised of an answer and the buffer after it if nothing is changed
  abbrev pub ReadsUnchanged : List ℕ → List ℕ → Decoded → List ℕ → Type 0
  ReadsUnchanged changes read answer after =
      (plan_of message percent).number ≡ 0 → length changes ≡ 0 → length message ≤ length read
      → (answer ≡ untouched) × (after ≡ message ++ drop (length message) read)

  module _ (x : Bytes message) (made : (plan_of message percent).number ≡ 0) where
    due : (read : List ℕ) → (read_back message percent p (made_tag message percent p) read).answer ≡ untouched
    unfolding read_back
    due read =
        ap₂ (λ u w. record { number = 0; length = length message; shape = (plan_of message percent).shape; position = p; unread = u; wrong = w })
        (none-unread message percent x made p) (none-wrong message percent x made p)

    shown-is : shown message percent p [] ≡ made_tag message percent p
    unfolding shown
    shown-is = damaged-none (made_tag message percent p)

    -- with an empty list of changes
    read_whole : p < 8 → (read : List ℕ) → length message ≤ length read
        → ((round_trip_in message percent p [] read).answer ≡ untouched)
        × ((round_trip_in message percent p [] read).message ≡ message ++ drop (length message) read)
    unfolding read_back
    read_whole turned read room =
        let s = subst (Shows message percent p) (sym shown-is) (undamaged message percent x made p turned) in
        let e = trip-reads-back message percent p [] read x s room in
        (e.0 ∙ ap (λ g. (read_back message percent p g read).answer) shown-is ∙ due read, e.1)

  -- THE COROLLARY
  pub trip-unchanged : Bytes message → p < 8 → (changes read : List ℕ)
      → (let trip = round_trip_in message percent p changes read in ReadsUnchanged changes read trip.answer trip.message)
  trip-unchanged x turned [] read made none room = read_whole x made turned read room
  trip-unchanged x turned (c ∷ cs) read made none room = absurd (omega (arith, none))
