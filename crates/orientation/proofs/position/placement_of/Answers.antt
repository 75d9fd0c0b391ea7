-- The counts are the matches of the eight positions.
-- Assumes nothing.
use Rattle.std.proofs.Common.{◌≡◌, sym, ap, ap₂, ◌∙◌, Bool, List, ℕ, arith, eqb, get_or}
use Rattle.std.proofs.Math.Option.{Option, none, some}
use Rattle.std.specs.declared.option.Option.TheVariants.{None, Some}
use Rattle.std.specs.Prelude.{Ok, Err}
use Rattle.list_laws.specs.Search.{first_from}
use Rattle.orientation.specs.Position.{matches, single, position, position_given}
use Rattle.orientation.specs.Counting.{Counted, position-same}
use Rattle.orientation.specs.Greatest.{most, most-same}
use Rattle.orientation.specs.Masks.{mask_from, mask-same}
use Rattle.orientation.specs.Placement.{best_matches, best_positions, placement_for, placement_of, best-few}
use Rattle.orientation.proofs.position.placement_of.Goals as goal

module _ (f : Bool) (n : ℕ) (g counts : List ℕ) (counted : Counted f n g counts 8) where
  abbrev searched : Option ℕ
  searched = first_from (single (λ q. get_or counts q 0)) 0 8

  placed : {p : ℕ} → position_given searched ≡ Some p → Ok p ≡ placement_of f n g
  placed {p} e = go (position f n g) (sym (ap position_given (position-same f n g counts counted)) ∙ e)
    where
      go : (o : Option ℕ) → position_given o ≡ Some p → Ok p ≡ placement_for f n g o
      go none e = absurd (cc)
      go (some q) e = cc

  matched : {m : ℕ} → m ≡ most (λ q. get_or counts q 0) 8 → m ≡ best_matches f n g
  unfolding best_matches
  matched e = e ∙ most-same _ (matches f n g) 8 counted

  masked : {m b : ℕ} → m ≡ most (λ q. get_or counts q 0) 8 → b ≡ mask_from (λ q. eqb (get_or counts q 0) m) 0 8 → b ≡ best_positions f n g
  unfolding best_positions
  masked {m} {b} e h = h ∙ mask-same _ _ 8 0 (λ q l. ap₂ eqb (counted q (omega arith)) (matched e))

  unplaced : {m b : ℕ} → position_given searched ≡ None → m ≡ most (λ q. get_or counts q 0) 8
      → b ≡ mask_from (λ q. eqb (get_or counts q 0) m) 0 8 → Err (record { best = m; positions = b }) ≡ placement_of f n g
  unplaced {m} {b} e h k = go (position f n g) (sym (ap position_given (position-same f n g counts counted)) ∙ e)
    where
      go : (o : Option ℕ) → position_given o ≡ None → Err (record { best = m; positions = b }) ≡ placement_for f n g o
      go none e = ap₂ (λ (x y : ℕ). Err (record { best = x; positions = y })) (matched h) (masked h k)
      go (some q) e = absurd (cc)

pub overflow_cast-best : goal.overflow_cast-best
overflow_cast-best c =
    let f = c.args.frame in
    let x = c.count_matches-counts in
    let few = best-few f.full f.side c.args.grid.now in
    omega (arith, matched f.full f.side c.args.grid.now x.result x.ensures c.most_of-most.ensures)

pub returns-in_default : goal.returns-in_default
returns-in_default c =
    let f = c.args.frame in
    let x = c.count_matches-counts in
    unplaced f.full f.side c.args.grid.now x.result x.ensures (sym c.position_in.ensures ∙ c.in_default.is) c.most_of-most.ensures
    c.positions_with-positions.ensures

pub returns : goal.returns
returns c =
    let f = c.args.frame in
    let x = c.count_matches-counts in
    placed f.full f.side c.args.grid.now x.result x.ensures (sym c.position_in.ensures ∙ c.in-Some.is)
