-- The answer that a plan, or a refusal, is.
-- Assumes nothing.
use Rattle.std.specs.Prelude.{Result, Ok, Err, Bool, ℕ, ◌-◌}
use Rattle.symbol.specs.Shapes.{side, words, number_of}
use Rattle.encoder.specs.declared.Encoded.{Encoded}
use Rattle.encoder.specs.declared.chosen.Choice.{Choice}
use Rattle.encoder.specs.declared.Refusal.{Refusal}
use Rattle.encoder.specs.declared.Refusal.TheVariants.{Empty, Percentage, TooLong, Room}
use Rattle.encoder.specs.Plan.{refused}

-- document 01's number of a refusal
abbrev pub refusal_number : Refusal → ℕ
refusal_number Empty = 1
refusal_number Percentage = 2
refusal_number TooLong = 3
refusal_number Room = 4

-- the answer for D words in a shape
abbrev pub chosen : ℕ → Bool → ℕ → ℕ → Encoded
chosen s f L D = record { number = 0; shape = s; side = side f L; data_words = D; check_words = words f L - D }

abbrev pub encoded : Result Choice Refusal → Encoded
encoded (Ok p) = chosen (number_of p.shape.full p.shape.layers) p.shape.full p.shape.layers p.data_words
encoded (Err r) = refused (refusal_number r)
