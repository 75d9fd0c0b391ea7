-- What a repair is lent and what it leaves: a block's syndromes, work slices, and the near block, if there is one.
-- Assumes nothing.
use Rattle.std.specs.Prelude.{◌≡◌, Bool, true, false, List, ℕ, ◌≤◌, ◌<◌, length}
use Rattle.std.proofs.Math.Option.{Option, none, some}
use Rattle.finite_field.specs.Field.{WordSize}
use Rattle.block_code.specs.Nearest.{unread}
use Rattle.correction.specs.Steps.{Blank, Lawful, Syndromes}

-- a lawful block within the limit of marks, and its syndromes
pub record Damaged (s : WordSize) (check limit : ℕ) (received marks syndromes : List ℕ) : Type 0 where
  pub lawful : Lawful s check limit received marks
  pub few : unread marks ≤ limit
  pub are : Syndromes s check received marks syndromes
  pub longer : length received < length syndromes

-- the work slices, zeros, each longer than a block of n words; the names are of what they hold first
pub record Work (n : ℕ) (u p q corrections : List ℕ) : Type 0 where
  -- the syndromes with the marked places taken out
  pub erased : Blank n u
  -- the locator, and the one before it was last lengthened
  pub locator : Blank n p
  pub shorter : Blank n q
  pub missing : Blank n corrections

-- what is left of `before`: the block found, or itself
pub record Repaired (found : Option (List ℕ)) (answer : Bool) (before after : List ℕ) : Type 0 where
  pub is-near : answer ≡ true → found ≡ some after
  pub is-far : answer ≡ false → (found ≡ none) × (after ≡ before)
