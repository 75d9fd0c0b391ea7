-- The table of the mode message's places, and its words of four bits.
-- Assumes nothing.
use Rattle.std.proofs.Common.{rules, ◌≡◌, ap₂, ◌∙◌, ◌*◌, arith, replicate}
use Rattle.list_laws.specs.Writes.{writes}
use Rattle.symbol.specs.Shapes.{side}
use Rattle.symbol.specs.Places.{mode_run, mode_place, run-most}
use Rattle.symbol.specs.CorePlaces.{core-room, mode-lt}
use Rattle.symbol.specs.Drawing.{words_bit, with_mode}
use Rattle.symbol.specs.Tables.{table_fits, table-draws}
use Rattle.drawing.proofs.draw_mode.Goals as goal
use Rattle.drawing.proofs.draw_mode.Goals.{After-mode_places, Start}

abbrev start : After-mode_places → Start
start c = (goal.at.After-mode_places c).Start

made : (c : After-mode_places)
    → let a = (start c).args in
    c.mode_places.new.places ≡ writes (replicate 40 0) (λ k. k) (mode_place a.shape.full (side a.shape.full a.shape.layers)) (4 * mode_run a.shape.full)
made c =
    let a = (start c).args in
    c.mode_places.ensures
    ∙ ap₂ (λ f n. writes (replicate 40 0) (λ k. k) (mode_place f n) (4 * mode_run f)) c.frame.ensures.0 c.frame.ensures.1

pub mode_places-requires : goal.mode_places-requires
mode_places-requires c = omega (arith, run-most c.frame.result.full)

pub draw_words-requires : goal.draw_words-requires
draw_words-requires c =
    let e = (goal.at.draw_words-requires c).After-mode_places in
    let s = start e in
    let a = s.args in
    let n = side a.shape.full a.shape.layers in record {
      le_size = (search rules, search rules, omega (arith, run-most a.shape.full));
      places_fit = table_fits (replicate 40 0) (mode_place a.shape.full n) (4 * mode_run a.shape.full) (omega (arith, run-most a.shape.full))
          (made e) (omega arith) _
          (λ i h. omega (arith, s.requires, mode-lt a.shape.full n (core-room a.shape.full a.shape.layers a.shape.shaped) i h));
    }

pub returns : goal.returns
unfolding with_mode
returns c =
    let e = (goal.at.returns c).After-mode_places in
    let a = (start e).args in
    let n = side a.shape.full a.shape.layers in
    table-draws (replicate 40 0) (mode_place a.shape.full n) (4 * mode_run a.shape.full) (omega (arith, run-most a.shape.full)) (made e) (omega arith)
    a.grid.now (words_bit 4 0 a.mode_words.now) c.draw_words.ensures
