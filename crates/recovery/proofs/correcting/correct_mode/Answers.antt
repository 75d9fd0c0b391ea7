-- The fronts of the two arrays are as long as the mode message.
-- Assumes nothing.
use Rattle.std.proofs.Common.{sym, ◌∙◌, ◌≤◌, arith, length-take-le}
use Rattle.symbol.specs.Places.{run-most}
use Rattle.recovery.proofs.correcting.correct_mode.Goals as goal
use Rattle.recovery.proofs.correcting.correct_mode.Goals.{After-mode_run_of-run}

short : (c : After-mode_run_of-run) → c.mode_run_of-run.result ≤ 10
short c = omega (arith, c.mode_run_of-run.ensures, run-most c.args.frame.full)

pub slice_bounds-received-end : goal.slice_bounds-received-end
slice_bounds-received-end c = short c

pub slice_bounds-correct_mode_with-end : goal.slice_bounds-correct_mode_with-end
slice_bounds-correct_mode_with-end c = sym (length-take-le c.mode_run_of-run.result _ (short (goal.at.slice_bounds-correct_mode_with-end c).After-mode_run_of-run))

pub slice_bounds-marks-end : goal.slice_bounds-marks-end
slice_bounds-marks-end c = short (goal.at.slice_bounds-marks-end c).After-mode_run_of-run

pub slice_bounds-correct_mode_with-end-2 : goal.slice_bounds-correct_mode_with-end-2
slice_bounds-correct_mode_with-end-2 c = sym (length-take-le c.mode_run_of-run.result _ (short (goal.at.slice_bounds-correct_mode_with-end-2 c).After-mode_run_of-run))

pub correct_mode_with-requires : goal.correct_mode_with-requires
correct_mode_with-requires c =
    let m = (goal.at.correct_mode_with-requires c).After-mode_run_of-run in
    let a = m in record {
      upright_len = a.requires.0;
      received_len = (
        length-take-le m.mode_run_of-run.result _ (short m) ∙ m.mode_run_of-run.ensures,
        length-take-le m.mode_run_of-run.result _ (short m) ∙ m.mode_run_of-run.ensures,
        a.requires.1,
      );
    }
