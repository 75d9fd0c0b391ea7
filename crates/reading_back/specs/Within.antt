-- When words with marks are within the limit of the made words (document 01, "Demand 3's words").
-- Assumes nothing.
use Rattle.std.specs.Prelude.{List, ℕ, ◌+◌, ◌*◌, ◌≤◌}
use Rattle.block_code.specs.Nearest.{differ, unread}

-- "within the limit if 2r + e is at most its K, with e of its words marked and r of the rest unlike the made words"
abbrev pub Within : ℕ → List ℕ → List ℕ → List ℕ → Type 0
Within K received marks made = 2 * differ received marks made + unread marks ≤ K
