-- The words of a message are read to the message.
-- Assumes nothing.
use Rattle.std.specs.Prelude.{◌≡◌}
use mathlib.Core.List.{List}
use Prim.Native.Nat.{ℕ, ◌≤◌}
use Rattle.stream.specs.Below.{Bytes}
use Rattle.stream.specs.Stream.{next_part, bits_of}
use Rattle.stream.specs.Items.{judge, message, read_items}
use Rattle.stream.specs.Stuffing.{stuff, unstuff}
use Rattle.stream.specs.RoundTrip.{round-trip-by, judge-by}
use Rattle.stream.proofs.PartLaws.{next-part-lawful}

pub round_trip : (text : List ℕ) → Bytes text → (B : ℕ) → 2 ≤ B → B ≤ 12 → read_items B (unstuff B (stuff B (bits_of text))) ≡ message text
unfolding bits_of
round_trip = round-trip-by next_part next-part-lawful

-- the words of a message are judged to be the message
pub judge-message : (text : List ℕ) → Bytes text → (B : ℕ) → 2 ≤ B → B ≤ 12 → judge B (stuff B (bits_of text)) ≡ message text
unfolding bits_of
judge-message = judge-by next_part next-part-lawful
