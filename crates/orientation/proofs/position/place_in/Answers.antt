-- The cell's row and column are inside the grid.
-- Assumes nothing.
use Rattle.std.proofs.Common.{◌≡◌, ap₂, ℕ, ◌+◌, ◌*◌, ◌/◌, ◌%◌, ◌≤◌, ◌<◌, arith}
use Rattle.symbol.specs.DataPlaces.{index-small, index-lt}
use Rattle.symbol.specs.Positions.{place_in, row_lt, col-lt, turned_lt}
use Rattle.symbol.specs.Places.{turned}
use Rattle.orientation.proofs.position.place_in.Goals as goal
use Rattle.orientation.proofs.position.place_in.Goals.{After-turned_cell-x}

record Known (n p k x y : ℕ) : Type 0 where
  small : x * n + y < 22801
  inside : x * n + y < n * n
  place : x * n + y ≡ place_in n p k

by_turn : {n p k x y : ℕ} → k < n * n → n ≤ 151 → (x ≡ (turned p n (k / n) (k % n)).0) × (y ≡ (turned p n (k / n) (k % n)).1) → Known n p k x y
unfolding place_in
by_turn {n} {p} {k} {x} {y} room most (h, e) =
    let inner = turned_lt p n (k / n) (k % n) (row_lt n k room) (col-lt n k room) in
    let row : x < n = omega arith in
    let col : y < n = omega arith in
    record { small = index-small n x y most row col; inside = index-lt n x y row col; place = ap₂ (λ (a b : ℕ). a * n + b) h e }

known : (c : After-turned_cell-x)
    → (let a = c.args in let x = c.turned_cell-x.result in Known a.frame.side a.position.number a.k x.row x.col)
known c = by_turn c.requires c.args.frame.most c.turned_cell-x.ensures

pub overflow_mul-result : goal.overflow_mul-result
overflow_mul-result c = let k = known (goal.at.overflow_mul-result c).After-turned_cell-x in omega (arith, k.small)

pub overflow_add-result : goal.overflow_add-result
overflow_add-result c = let k = known (goal.at.overflow_add-result c).After-turned_cell-x in omega (arith, k.small)

pub returns : goal.returns
returns c = let k = known (goal.at.returns c).After-turned_cell-x in (k.place, k.inside)
