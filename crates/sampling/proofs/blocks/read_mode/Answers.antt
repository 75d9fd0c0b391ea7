-- The table of the mode message's places, and its words of four bits.
-- Assumes nothing.
use Rattle.std.proofs.Common.{rules, ◌*◌, arith, replicate}
use Rattle.symbol.specs.Places.{mode_run, mode_place, run-most}
use Rattle.symbol.specs.CorePlaces.{mode-lt}
use Rattle.symbol.specs.Tables.{table_fits}
use Rattle.sampling.proofs.TableWords.{mode-values, mode-marks}
use Rattle.sampling.proofs.blocks.read_mode.Goals as goal
use Rattle.sampling.proofs.blocks.read_mode.Goals.{After-mode_places, Start}

abbrev start : After-mode_places → Start
start c = (goal.at.After-mode_places c).Start

pub mode_places-requires : goal.mode_places-requires
mode_places-requires c =
    omega (arith, run-most c.args.frame.full)

pub read_words-requires : goal.read_words-requires
read_words-requires c =
    let e = (goal.at.read_words-requires c).After-mode_places in
    let s = start e in
    let a = s.args in record {
      le_size = (search rules, search rules, omega (arith, s.requires.mode_words_len), omega (arith, s.requires.mode_words_len, run-most a.frame.full));
      places_fit = table_fits (replicate 40 0) (mode_place a.frame.full a.frame.side) (4 * mode_run a.frame.full) (omega (arith, run-most a.frame.full))
          e.mode_places.ensures (omega (arith, s.requires.mode_words_len)) _
          (λ i h. omega (arith, s.requires.upright_len, mode-lt a.frame.full a.frame.side a.frame.room i h));
    }

pub returns : goal.returns
returns c =
    let e = (goal.at.returns c).After-mode_places in
    let s = start e in
    let a = s.args in
    let u = a.upright.now in
    let read = c.read_words.ensures in
    let room = run-most a.frame.full in record {
      mode_words_after = mode-values a.frame.full a.frame.side u (replicate 40 0) (omega arith) e.mode_places.ensures s.requires.mode_words_len.0 read.words_after;
      marks_after = mode-marks a.frame.full a.frame.side u (replicate 40 0) (omega arith) e.mode_places.ensures s.requires.mode_words_len.0 read.marks_after;
    }
