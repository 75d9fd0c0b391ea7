-- What is read upright is what the definition reads from the grid.
-- Assumes nothing.
use Rattle.std.proofs.Common.{ap, ◌∙◌, sym, subst, ℕ, ◌*◌, ◌≤◌, arith, length, replicate}
use lib.ListN.{length-replicate}
use Rattle.list_laws.specs.Writes.{length-writes}
use Rattle.symbol.specs.GridWords.{module_at}
use Rattle.walk.specs.Told.{Walked}
use Rattle.walk.specs.Rooms.{area-most}
use Rattle.walk.specs.UprightLaws.{upright-same}
use Rattle.walk.proofs.grid.walk_oriented.Goals as goal
use Rattle.walk.proofs.grid.walk_oriented.Goals.{Start}

room : (a : Start) → a.args.frame.side * a.args.frame.side ≤ length {A = ℕ} (replicate 22801 0)
room a =
    let f = a.args.frame in
    subst (λ k. f.side * f.side ≤ k) (sym (length-replicate {A = ℕ} 22801 0)) (area-most f.side f.most)

pub turn_upright-requires : goal.turn_upright-requires
turn_upright-requires c =
    let a = (goal.at.turn_upright-requires c).Start in (c.args.frame.most, c.requires, room a)

pub walk_upright-requires : goal.walk_upright-requires
walk_upright-requires c =
    let a = (goal.at.walk_upright-requires c).Start in
    let n = c.args.frame.side in
    let size =
    ap length c.turn_upright.ensures
    ∙ length-writes (replicate 22801 0) (λ k. k) (module_at n c.args.position.number c.args.grid.now) (n * n) in
    omega (arith, size, room a)

pub returns : goal.returns
returns c =
    let a = (goal.at.returns c).Start in
    let f = c.args.frame in
    subst (λ w. Walked w c.args.buffers.now c.walk_upright.result c.walk_upright.new.buffers)
    (upright-same f.side c.args.position.number c.args.grid.now (replicate 22801 0) (room a) c.turn_upright.ensures f.full f.room)
    c.walk_upright.ensures
