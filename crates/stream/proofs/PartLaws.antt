-- What holds of the encoder's own cut into parts.
-- Assumes nothing.
use Rattle.std.specs.Prelude.{length}
use Rattle.std.proofs.Common.{arith}
use mathlib.Core.List.{List}
use Prim.Native.Nat.{ℕ, ◌+◌, ◌-◌, ◌*◌, ◌≤◌, ◌<◌}
use Rattle.stream.specs.Below.{Bytes, Bits}
use Rattle.stream.specs.Stream.{next_part, bits_of}
use Rattle.stream.specs.Stuffing.{stuff}
use Rattle.stream.specs.StuffingLaws.{words-length}
use Rattle.stream.specs.StreamLaws.{Lawful}
use Rattle.stream.specs.StreamLength.{stream_bits, stream-length}

pub next-part-lawful : Lawful next_part
unfolding next_part
next-part-lawful n h = omega arith

-- every byte of a message takes at least 4 stream bits, and at most 23
pub bits-length : (message : List ℕ) → Bytes message
    → (4 * length message ≤ length (bits_of message)) × (length (bits_of message) ≤ 23 * length message)
unfolding bits_of
bits-length message x = stream-length next_part next-part-lawful 0 message (omega arith) x

pub message-bits : (message : List ℕ) → Bits (bits_of message)
unfolding bits_of
message-bits message = stream_bits next_part next-part-lawful 0 message

-- so many words hold a message: at most 4,992 bytes fit 19,968 bits
pub words-of-message : (B : ℕ) → 2 ≤ B → (message : List ℕ) → Bytes message
    → (4 * length message ≤ length (stuff B (bits_of message)) * B) × (length (stuff B (bits_of message)) * (B - 1) < 23 * length message + B)
words-of-message B two message x = omega (arith, words-length B two (bits_of message) (message-bits message), bits-length message x)
