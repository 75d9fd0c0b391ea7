-- Computed examples of a tag's changes and of a round trip (document 01, "Demand 3's words"). `damaged-all` of round_trip says that every
-- grid of 0, 1 and 2 arises so.
-- Assumes nothing.
use Rattle.std.specs.Prelude.{◌≡◌, refl, List, [], ◌∷◌, ℕ}
use Rattle.list_laws.specs.Filled.{tabulate}
use Rattle.encoder.specs.Plan as plan
use Rattle.decoder.specs.Decode.{refused}
use Rattle.round_trip.specs.Changes.{changed_to, damaged}
use Rattle.round_trip.specs.RoundTrip.{round_trip_in, round_trip_of}

-- "each 0, 1 or 2": to 1, to unread, a number above 2, and no entry
pub changes : damaged (0 ∷ 1 ∷ 1 ∷ 0 ∷ []) (1 ∷ 2 ∷ 3 ∷ []) ≡ 1 ∷ 2 ∷ 1 ∷ 0 ∷ []
unfolding tabulate changed_to damaged
changes = refl

-- the eight positions, counted from 0 again: 7, 8 and 13
pub position-taken : (m c b : List ℕ) → round_trip_of m 23 7 c b ∷ round_trip_of m 23 8 c b ∷ round_trip_of m 23 13 c b ∷ []
    ≡ round_trip_in m 23 7 c b ∷ round_trip_in m 23 0 c b ∷ round_trip_in m 23 5 c b ∷ []
position-taken m c b = refl

-- the maker's refusal, 1 before 2, and the buffer as it was
pub not_made : (b : List ℕ) → round_trip_of [] 96 9 [] b ≡ refused 1 b
unfolding plan.refused plan.plan_of round_trip_in
not_made b = refl
