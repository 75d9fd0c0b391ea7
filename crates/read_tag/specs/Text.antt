-- What the program reads in its input: no grid, or the answer for the grid's tag; and the message buffer afterwards.
-- Assumes nothing.
use Rattle.std.specs.Prelude.{List, ℕ, Option, Some, None, option_map}
use Rattle.grid_text.specs.Grid.{side_of, modules_of}
use Rattle.decoder.specs.declared.Decoded.{Decoded}
use Rattle.decoder.specs.Decode.{Result}
use Rattle.read_tag.specs.Within.{read_within}

-- there is room for 255 × 255 modules
abbrev pub text_side : List ℕ → Option ℕ
text_side bytes = side_of bytes 65025

-- what the grid's tag gives
abbrev pub text_result : List ℕ → ℕ → List ℕ → Result
text_result bytes side buffer = read_within (modules_of bytes) side buffer

abbrev pub reading_at : Option ℕ → List ℕ → List ℕ → Option Decoded
reading_at side bytes buffer = option_map (λ n. (text_result bytes n buffer).answer) side

-- the program's answer
unfoldable pub reading_of : List ℕ → List ℕ → Option Decoded
reading_of bytes buffer = reading_at (text_side bytes) bytes buffer

abbrev pub message_at : Option ℕ → List ℕ → List ℕ → List ℕ
message_at None bytes buffer = buffer
message_at (Some n) bytes buffer = (text_result bytes n buffer).message

-- the message buffer afterwards
unfoldable pub message_of : List ℕ → List ℕ → List ℕ
message_of bytes buffer = message_at (text_side bytes) bytes buffer
