-- The first c modules of the row are written.
-- Assumes nothing.
use Rattle.std.proofs.Common.{refl, ◌+◌, ◌*◌, ◌≤◌, ◌<◌, arith, length-set}
use Rattle.list_laws.specs.Writes.{writes-none, writes-step}
use Rattle.symbol.specs.DataPlaces.{index-lt}
use Rattle.symbol.specs.GridWords.{module_at}
use Rattle.sampling.specs.Lines.{steps-le, line-lt, line-module}
use Rattle.sampling.proofs.upright.turn_row.Goals as goal
use Rattle.sampling.proofs.upright.turn_row.Goals.{At-loop-c, In-loop-c, Start}

abbrev start : At-loop-c → Start
start c = (goal.at.At-loop-c c).Start

-- the sums of the line fit, and column c stands inside both grids
sums : (c : In-loop-c)
    → let l = (goal.at.In-loop-c c).At-loop-c in
    let x = l.line_of-line.result in
    (l.loop-c.c * x.ahead ≤ 22801) × (l.loop-c.c * x.back ≤ 22801) × (x.start ≤ 22801)
sums c =
    let l = (goal.at.In-loop-c c).At-loop-c in
    let a = (start l).args in
    steps-le a.n a.position.number a.row (start l).requires.1 l.line_of-line.ensures l.loop-c.c (omega arith) (start l).requires.0

inside : (c : In-loop-c) → let a = (start (goal.at.In-loop-c c).At-loop-c).args in a.row * a.n + c.loop-c.c < a.n * a.n
inside c = let l = (goal.at.In-loop-c c).At-loop-c in let a = (start l).args in index-lt a.n a.row l.loop-c.c (start l).requires.1 (omega arith)

pub loop-c-init : goal.loop-c-init
loop-c-init c = (refl, writes-none _ _ _)

pub bounds-grid-at : goal.bounds-grid-at
bounds-grid-at c =
    let l = (goal.at.bounds-grid-at c).At-loop-c in
    let a = (start l).args in
    omega (
      arith,
      (start l).requires.2,
      line-lt a.n a.position.number a.row (start l).requires.1 l.line_of-line.ensures l.loop-c.c (omega arith),
    )

pub loop-c-preserved : goal.loop-c-preserved
loop-c-preserved c =
    let l = (goal.at.loop-c-preserved c).At-loop-c in
    let a = (start l).args in (
      simp length-set l.loop-c.invariant.0,
      writes-step _ (λ c. a.row * a.n + c) (λ c. module_at a.n a.position.number a.grid.now (a.row * a.n + c)) l.loop-c.c
          l.loop-c.invariant.1 refl
          (line-module a.n a.position.number a.row (start l).requires.1 l.line_of-line.ensures l.loop-c.c (omega arith) a.grid.now),
    )
