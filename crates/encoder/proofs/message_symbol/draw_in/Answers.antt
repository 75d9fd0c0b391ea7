-- The fronts of the two buffers are as long as the shape says.
-- Assumes nothing.
use Rattle.std.proofs.Common.{◌≡◌, sym, ◌∙◌, ◌≤◌, arith, length, take, length-take-le}
use Rattle.symbol.specs.Places.{run-most}
use Rattle.encoder.specs.EncodeLaws.{words-all}
use Rattle.encoder.proofs.message_symbol.draw_in.Goals as goal
use Rattle.encoder.proofs.message_symbol.draw_in.Goals.{After-mode_run_of-run, Start}

abbrev start : After-mode_run_of-run → Start
start c = (goal.at.After-mode_run_of-run c).Start

block_room : (c : After-mode_run_of-run) → c.words-n.result ≤ length (start c).args.words.now
block_room c =
    let a = start c in
    omega (arith, c.words-n.ensures, words-all a.args.shape.full a.args.shape.layers a.args.shape.shaped, a.requires.in_bounds.0)

mode-room : (c : After-mode_run_of-run) → c.mode_run_of-run.result ≤ length (start c).args.mode_words.now
mode-room c = let a = start c in omega (arith, c.mode_run_of-run.ensures, run-most a.args.shape.full, a.requires.in_bounds.1)

block-length : (c : After-mode_run_of-run)
    → length (take c.words-n.result (start c).args.words.now) ≡ c.words-n.result
block-length c = length-take-le c.words-n.result (start c).args.words.now (block_room c)

mode-length : (c : After-mode_run_of-run)
    → length (take c.mode_run_of-run.result (start c).args.mode_words.now) ≡ c.mode_run_of-run.result
mode-length c = length-take-le c.mode_run_of-run.result (start c).args.mode_words.now (mode-room c)

pub slice_bounds-draw_with-end : goal.slice_bounds-draw_with-end
slice_bounds-draw_with-end c = block_room c

pub slice_bounds-draw_with-end-2 : goal.slice_bounds-draw_with-end-2
slice_bounds-draw_with-end-2 c = sym (block-length (goal.at.slice_bounds-draw_with-end-2 c).After-mode_run_of-run)

pub slice_bounds-draw_with-end-3 : goal.slice_bounds-draw_with-end-3
slice_bounds-draw_with-end-3 c = mode-room (goal.at.slice_bounds-draw_with-end-3 c).After-mode_run_of-run

pub slice_bounds-draw_with-end-4 : goal.slice_bounds-draw_with-end-4
slice_bounds-draw_with-end-4 c = sym (mode-length (goal.at.slice_bounds-draw_with-end-4 c).After-mode_run_of-run)

pub draw_with-requires : goal.draw_with-requires
draw_with-requires c =
    let m = (goal.at.draw_with-requires c).After-mode_run_of-run in
    let a = start m in record {
      fitting_1 = a.requires.fitting_1;
      fitting_2 = a.requires.fitting_2;
      words_len = (block-length m ∙ m.words-n.ensures, mode-length m ∙ m.mode_run_of-run.ensures);
    }
