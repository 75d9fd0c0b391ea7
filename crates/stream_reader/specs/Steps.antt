-- What one step of the reader finds: at bit `at` of the words' stream, in set s, and where it stands afterwards.
-- Assumes nothing.
use Rattle.std.specs.Prelude.{◌≡◌, Result, Option, MatchResult, MatchOption, Err, true, List, ℕ, ◌+◌, ◌-◌, drop}
use Rattle.stream.specs.declared.items.Item.{Item}
use Rattle.stream.specs.declared.items.Fault.{Fault}
use Rattle.stream.specs.Items.{found_item, item_at, extra, set_after, stops}
use Rattle.stream.specs.ReadingLaws.{Live}
use Rattle.stream.specs.Stuffing.{unstuff_from}
use Rattle.item_reader.specs.declared.reading.Place.{Place}
use Rattle.item_reader.specs.Places.{rest}

-- an item is found, whose codes take u bits, and what follows them is at a place
pub record Passed (h : ℕ) (words r : List ℕ) (at s : ℕ) (i : Item) (p : Place) (at' s' : ℕ) : Type 0 where
  pub used : ℕ
  pub says : item_at s r ≡ found_item i used
  pub follows : rest h words p.word p.bit ≡ drop used r
  pub passed : at' ≡ at + (used + extra i)
  pub set : s' ≡ set_after s i

-- the reading stops, or an item is passed, or one is at fault and nothing is passed
abbrev pub Stepped : ℕ → List ℕ → ℕ → ℕ → Result (Option (Item × Place)) Fault → ℕ → ℕ → Type 0
Stepped B words at s result at' s' =
    let r = drop at (unstuff_from (B - 1) words) in
    MatchResult result
    (λ o. MatchOption o ((stops B r ≡ true) × (at' ≡ at) × (s' ≡ s)) (λ x. Live B r × Passed (B - 1) words r at s x.0 x.1 at' s'))
    (λ e. Live B r × (item_at s r ≡ Err e) × (at' ≡ at) × (s' ≡ s))
