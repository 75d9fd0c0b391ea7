-- The cell's row and column are inside the symbol.
-- Assumes nothing.
use Rattle.std.proofs.Common.{◌≡◌, ap, ap₂, ◌∙◌, Bool, ℕ, ◌+◌, ◌*◌, ◌-◌, ◌/◌, ◌≤◌, ◌<◌, arith}
use Rattle.symbol.specs.Shapes.{core}
use Rattle.symbol.specs.Places.{turned, core_place}
use Rattle.symbol.specs.DataPlaces.{index-small, index-lt}
use Rattle.symbol.specs.Positions.{turned_lt}
use Rattle.symbol.proofs.places.core_place.Goals as goal
use Rattle.symbol.proofs.places.core_place.Goals.{After-turned_cell-x}

record Known (f : Bool) (n p r c d x y : ℕ) : Type 0 where
  row : n / 2 - d + x < n
  col : n / 2 - d + y < n
  inside : (n / 2 - d + x) * n + (n / 2 - d + y) < n * n
  small : (n / 2 - d + x) * n + (n / 2 - d + y) < 22801
  place : (n / 2 - d + x) * n + (n / 2 - d + y) ≡ core_place f n (turned p (2 * core f + 1) r c)

by-core : {f : Bool} {n p r c d x y : ℕ} → 2 * core f < n → n ≤ 151 → r ≤ 2 * core f → c ≤ 2 * core f → d ≡ core f
    → (x ≡ (turned p (2 * d + 1) r c).0) × (y ≡ (turned p (2 * d + 1) r c).1) → Known f n p r c d x y
unfolding core_place
by-core {f} {n} {p} {r} {c} {d} {x} {y} room most low left e (h, k) =
    let inside = turned_lt p (2 * d + 1) r c (omega arith) (omega arith) in
    let row : n / 2 - d + x < n = omega arith in
    let col : n / 2 - d + y < n = omega arith in
    record {
      row = row;
      col = col;
      inside = index-lt n _ _ row col;
      small = index-small n _ _ most row col;
      place =
          ap₂ (λ (a b : ℕ). (n / 2 - d + a) * n + (n / 2 - d + b)) h k
          ∙ ap (λ d. let t = turned p (2 * d + 1) r c in (n / 2 - d + t.0) * n + (n / 2 - d + t.1)) e;
    }

known : (c : After-turned_cell-x)
    → (let a = c.args in
    let x = c.turned_cell-x.result in
    Known a.frame.full a.frame.side a.turns a.row a.col c.core_of-core.result x.row x.col)
known c =
    let s = c.requires in
    by-core c.args.frame.room c.args.frame.most s.1 s.2 c.core_of-core.ensures c.turned_cell-x.ensures

pub overflow_add-result : goal.overflow_add-result
overflow_add-result c = let k = known (goal.at.overflow_add-result c).After-turned_cell-x in omega arith

pub overflow_mul-result : goal.overflow_mul-result
overflow_mul-result c = let k = known (goal.at.overflow_mul-result c).After-turned_cell-x in omega arith

pub overflow_add-result-2 : goal.overflow_add-result-2
overflow_add-result-2 c = let k = known (goal.at.overflow_add-result-2 c).After-turned_cell-x in omega arith

pub overflow_add-result-3 : goal.overflow_add-result-3
overflow_add-result-3 c = let k = known (goal.at.overflow_add-result-3 c).After-turned_cell-x in omega arith

pub overflow_cast-result : goal.overflow_cast-result
overflow_cast-result c = let k = known (goal.at.overflow_cast-result c).After-turned_cell-x in omega arith

pub returns : goal.returns
returns c = let k = known (goal.at.returns c).After-turned_cell-x in record { place = k.place; inside = k.inside }
