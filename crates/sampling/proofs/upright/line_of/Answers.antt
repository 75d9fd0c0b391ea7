-- A row's first module, and the step from there, by the positions that share it.
-- Assumes nothing.
use Rattle.std.proofs.Common.{rules, ◌+◌, ◌*◌, ◌<◌, mul-le-mul, arith}
use Rattle.sampling.specs.Lines.{rightward, downward, leftward, upward, three-or-five, first-lt, along}
use Rattle.sampling.proofs.upright.line_of.Goals as goal
use Rattle.sampling.proofs.upright.line_of.Goals.{After-turned_cell-first}

start-lt : (c : After-turned_cell-first)
    → c.turned_cell-first.result.row * c.args.n + c.turned_cell-first.result.col < 22801
start-lt c =
    let n = c.args.n in
    let e = c.turned_cell-first.ensures in
    omega (
      arith,
      first-lt n c.args.position.number c.args.row c.requires.1 e.0 e.1,
      mul-le-mul {n₁ = n} {m₁ = n} {n₂ = 151} {m₂ = 151} c.requires.0 c.requires.0,
    )

pub overflow_mul-start : goal.overflow_mul-start
overflow_mul-start c = omega (arith, start-lt (goal.at.overflow_mul-start c).After-turned_cell-first)

pub overflow_add-start : goal.overflow_add-start
overflow_add-start c = omega (arith, start-lt (goal.at.overflow_add-start c).After-turned_cell-first)

pub returns-in-0 : goal.returns-in-0
returns-in-0 c =
    let t = (goal.at.returns-in-0 c).After-turned_cell-first in
    let s = t in
    let a = s.args in
    let e = t.turned_cell-first.ensures in
    along a.n a.position.number a.row s.requires.1 e.0 e.1 _ _ (omega arith) (omega arith)
    (λ k h. rightward a.n a.row k h a.position.number c.in-0.is)

pub returns-in-1 : goal.returns-in-1
returns-in-1 c =
    let t = (goal.at.returns-in-1 c).After-turned_cell-first in
    let s = t in
    let a = s.args in
    let e = t.turned_cell-first.ensures in
    along a.n a.position.number a.row s.requires.1 e.0 e.1 _ _ (omega arith) (omega arith)
    (λ k h. downward a.n a.row k h a.position.number c.in-1.is)

pub returns-in-2 : goal.returns-in-2
returns-in-2 c =
    let t = (goal.at.returns-in-2 c).After-turned_cell-first in
    let s = t in
    let a = s.args in
    let e = t.turned_cell-first.ensures in
    along a.n a.position.number a.row s.requires.1 e.0 e.1 _ _ (omega arith) (omega arith)
    (λ k h. leftward a.n a.row k h a.position.number c.in-2.is)

pub returns-in_default : goal.returns-in_default
returns-in_default c =
    let t = (goal.at.returns-in_default c).After-turned_cell-first in
    let s = t in
    let a = s.args in
    let e = t.turned_cell-first.ensures in
    along a.n a.position.number a.row s.requires.1 e.0 e.1 _ _ (omega arith) (omega arith)
    (λ k h. upward a.n a.row k h a.position.number (three-or-five a.position.number a.position.lawful (search rules) (search rules) (search rules)))
