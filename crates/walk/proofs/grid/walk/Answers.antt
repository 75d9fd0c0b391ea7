-- The numbers 11, 12 and 13 in their order.
-- Assumes nothing.
use Rattle.std.proofs.Common.{sym, ◌∙◌, subst, arith}
use Rattle.orientation.specs.Sides.{side-range}
use Rattle.walk.specs.declared.Refusal.TheVariants.{Side, Length, Module}
use Rattle.walk.specs.Told.{Walked, walked-ended}
use Rattle.walk.specs.Rooms.{area-most}
use Rattle.walk.specs.GridLaws.{side-refused, length-refused, module-refused, grid-taken}
use Rattle.walk.proofs.grid.walk.Goals as goal

pub returns-then-not-is_side : goal.returns-then-not-is_side
returns-then-not-is_side c =
    let a = c.args in
    walked-ended Side a.buffers.now (side-refused a.grid.now a.n (sym c.is_side.ensures ∙ c.if-not-is_side.true))

pub overflow_mul-n : goal.overflow_mul-n
overflow_mul-n c = let n = c.args.n in omega (arith, area-most n (side-range n (sym c.is_side.ensures ∙ c.if-not-is_side.false)).1)

pub returns-then-grid-n : goal.returns-then-grid-n
returns-then-grid-n c =
    let a = c.args in
    walked-ended Length a.buffers.now
    (length-refused a.grid.now a.n (sym c.is_side.ensures ∙ c.if-not-is_side.false) c.if-grid-n.true)

pub returns-then-not-all_lawful : goal.returns-then-not-all_lawful
returns-then-not-all_lawful c =
    let a = c.args in
    walked-ended Module a.buffers.now
    (module-refused a.grid.now a.n (sym c.is_side.ensures ∙ c.if-not-is_side.false) c.if-grid-n.false
    (sym c.all_lawful.ensures ∙ c.if-not-all_lawful.true))

pub walk_grid-requires : goal.walk_grid-requires
walk_grid-requires c =
    let k = side-range c.args.n (sym c.is_side.ensures ∙ c.if-not-is_side.false) in (k.0, k.1, sym c.if-grid-n.false)

pub returns : goal.returns
returns c =
    let a = c.args in
    subst (λ w. Walked w a.buffers.now c.walk_grid.result c.walk_grid.new.buffers)
    (sym (grid-taken a.grid.now a.n (sym c.is_side.ensures ∙ c.if-not-is_side.false) c.if-grid-n.false
    (sym c.all_lawful.ensures ∙ c.if-not-all_lawful.false)))
    c.walk_grid.ensures
