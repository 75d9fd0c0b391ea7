-- The stages before the mode words, as the code meets them: a placement, and the numbers 11 to 14 in their order.
-- Assumes nothing.
use Rattle.std.specs.Prelude.{◌≡◌, Result, Ok, Err, ◌≢◌, Bool, true, false, List, ℕ, ◌*◌, length}
use Rattle.std.proofs.Math.Path.{refl, ap}
use Rattle.std.proofs.Common.{sym, ◌∙◌, subst}
use Rattle.std.proofs.Math.Option.{Option, none, some}
use borrow.Author.Tests.{eq-eqb, ne_eqb}
use Rattle.orientation.specs.declared.position.Unplaced.{Unplaced as Cause}
use Rattle.orientation.specs.Modules.{lawful_modules}
use Rattle.orientation.specs.Sides.{is_side}
use Rattle.orientation.specs.Family.{looks_full}
use Rattle.orientation.specs.Position.{position}
use Rattle.orientation.specs.Placement.{placement_for, placement_of}
use Rattle.walk.specs.declared.Refusal.TheVariants.{Side, Length, Module, Unplaced}
use Rattle.walk.specs.Walk.{ended, place_walk, grid_walk, walk_of}

module _ (g : List ℕ) (n : ℕ) (f : Bool) where
  -- what a placement says of the grid
  abbrev PlacedBy : Result ℕ Cause → Type 0
  PlacedBy (Ok p) = position f n g ≡ some p
  PlacedBy (Err cause) = place_walk g f n (position f n g) ≡ ended (Unplaced cause)

  placed_by : PlacedBy (placement_of f n g)
  placed_by = go (position f n g) refl
    where
      go : (o : Option ℕ) → position f n g ≡ o → PlacedBy (placement_for f n g o)
      go none e = ap (place_walk g f n) e
      go (some p) e = e

  grid-is : f ≡ looks_full n g → place_walk g f n (position f n g) ≡ grid_walk g n
  unfolding grid_walk
  grid-is family = ap (λ b. place_walk g b n (position b n g)) family

  pub found_at : {p : ℕ} → placement_of f n g ≡ Ok p → position f n g ≡ some p
  found_at e = subst PlacedBy e placed_by

  pub grid-placed : {p : ℕ} → f ≡ looks_full n g → placement_of f n g ≡ Ok p → place_walk g f n (some p) ≡ grid_walk g n
  grid-placed family e = sym (ap (place_walk g f n) (found_at e)) ∙ grid-is family

  pub grid-unplaced : {cause : Cause} → f ≡ looks_full n g → placement_of f n g ≡ Err cause → ended (Unplaced cause) ≡ grid_walk g n
  grid-unplaced family e = sym (subst PlacedBy e placed_by) ∙ grid-is family

module _ (g : List ℕ) (n : ℕ) where
  pub side-refused : is_side n ≡ false → walk_of g n ≡ ended Side
  unfolding walk_of
  side-refused e = rw e refl

  pub length-refused : is_side n ≡ true → length g ≢ n * n → walk_of g n ≡ ended Length
  unfolding walk_of
  length-refused e h = rw (e, ne_eqb (length g) (n * n) h) refl

  pub module-refused : is_side n ≡ true → length g ≡ n * n → lawful_modules g ≡ false → walk_of g n ≡ ended Module
  unfolding walk_of
  module-refused e h m = rw (e, eq-eqb (length g) (n * n) h, m) refl

  pub grid-taken : is_side n ≡ true → length g ≡ n * n → lawful_modules g ≡ true → walk_of g n ≡ grid_walk g n
  unfolding walk_of
  grid-taken e h m = rw (e, eq-eqb (length g) (n * n) h, m) refl
