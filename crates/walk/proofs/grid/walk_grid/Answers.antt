-- The family and the position are the definition's.
-- Assumes nothing.
use Rattle.std.proofs.Common.{ap, ◌∙◌, sym, subst, arith}
use Rattle.std.proofs.lemmas.Result.{err_from_is_err_and}
use Rattle.symbol.specs.Shapes.{core-range}
use Rattle.orientation.specs.PositionLaws.{found-best}
use Rattle.std.proofs.Math.Option.{some}
use Rattle.walk.specs.Walk.{place_walk}
use Rattle.walk.specs.Told.{Walked, walked-ended}
use Rattle.walk.specs.GridLaws.{found_at, grid-placed, grid-unplaced}
use Rattle.walk.proofs.grid.walk_grid.Goals as goal

pub invariant_of-frame : goal.invariant_of-frame
invariant_of-frame c = record { room = omega (arith, core-range c.looks_full-full.result, c.requires.0); most = c.requires.1 }

pub returns-in_err-number : goal.returns-in_err-number
returns-in_err-number c =
    let p = err_from_is_err_and c.from_residual.result c.from_residual.ensures.1 in
    rw (p.1, p.2)
    (walked-ended _ c.args.buffers.now
    (sym (grid-unplaced c.args.grid.now c.args.n c.looks_full-full.result c.looks_full-full.ensures (sym c.in_err-number.ensures))))

pub numbered-requires : goal.numbered-requires
numbered-requires c =
    let at = found_at c.args.grid.now c.args.n c.looks_full-full.result (sym c.in_ok-number.ensures) in
    (found-best c.looks_full-full.result c.args.n c.args.grid.now at).lawful

pub returns : goal.returns
returns c =
    subst (λ w. Walked w c.args.buffers.now c.walk_oriented.result c.walk_oriented.new.buffers)
    (ap (λ q. place_walk c.args.grid.now c.looks_full-full.result c.args.n (some q)) c.numbered.ensures
    ∙ grid-placed c.args.grid.now c.args.n c.looks_full-full.result c.looks_full-full.ensures (sym c.in_ok-number.ensures))
    c.walk_oriented.ensures
