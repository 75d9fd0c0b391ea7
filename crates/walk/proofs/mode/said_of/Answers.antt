-- Ten words are room for any mode message.
-- Assumes nothing.
use Rattle.std.proofs.Common.{sym, ◌∙◌, ◌≤◌, arith, replicate, length-take-le}
use Rattle.symbol.specs.Places.{run-most}
use Rattle.walk.proofs.mode.said_of.Goals as goal
use Rattle.walk.proofs.mode.said_of.Goals.{After-mode_run_of-run}

short : (c : After-mode_run_of-run) → c.mode_run_of-run.result ≤ 10
short c = omega (arith, c.mode_run_of-run.ensures, run-most c.args.frame.full)

pub slice_bounds-mode_words-end : goal.slice_bounds-mode_words-end
slice_bounds-mode_words-end c = short c

pub slice_bounds-said_in-end : goal.slice_bounds-said_in-end
slice_bounds-said_in-end c = sym (length-take-le c.mode_run_of-run.result (replicate 10 0) (short (goal.at.slice_bounds-said_in-end c).After-mode_run_of-run))

pub said_in-requires : goal.said_in-requires
said_in-requires c =
    let m = (goal.at.said_in-requires c).After-mode_run_of-run in
    (m.requires, length-take-le m.mode_run_of-run.result (replicate 10 0) (short m) ∙ m.mode_run_of-run.ensures)
