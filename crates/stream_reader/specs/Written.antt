-- A message in a buffer: its first bytes are the message, and the rest keep their bytes (document 01, "How a grid is read").
-- Assumes nothing.
use Rattle.std.specs.Prelude.{List, ◌++◌, ℕ, ◌≤◌, length, drop}
use Rattle.stream.specs.Items.{Reading, message, refused}

-- a reading's message has room in the buffer b
abbrev pub Room : Reading → List ℕ → Type 0
Room (message m) b = length m ≤ length b
Room (refused n at) b = ⊥

-- the buffer b after it is written
abbrev pub written : Reading → List ℕ → List ℕ
written (message m) b = m ++ drop (length m) b
written (refused n at) b = b
