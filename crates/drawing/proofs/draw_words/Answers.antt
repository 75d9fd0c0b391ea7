-- The skipped bits and the first w words stand at their places.
-- Assumes nothing.
use Rattle.std.proofs.Common.{rules, refl, ◌+◌, ◌*◌, ◌≤◌, arith, subst, length}
use Rattle.symbol.specs.Tables.{length-part, word_room, front_fits, part_fits}
use Rattle.symbol.specs.Drawing.{PlacesFit}
use Rattle.drawing.proofs.WordTurns.{zeros-drawn, no_words, word-drawn, words-drawn}
use Rattle.drawing.proofs.draw_words.Goals as goal
use Rattle.drawing.proofs.draw_words.Goals.{At-loop-w, In-loop-w, Start}

abbrev start : At-loop-w → Start
start c = (goal.at.At-loop-w c).Start

room : (c : In-loop-w)
    → let a = (start (goal.at.In-loop-w c).At-loop-w).args in
    a.skip + c.loop-w.w * a.size + a.size ≤ a.skip + length a.words.now * a.size
room c = let a = (start (goal.at.In-loop-w c).At-loop-w).args in word_room a.size a.skip c.loop-w.w (length a.words.now) (omega arith)

pub draw_zeros-requires : goal.draw_zeros-requires
draw_zeros-requires c = let a = c.args in front_fits a.places.now a.skip _ (omega arith) (omega arith) c.requires.places_fit

pub loop-w-init : goal.loop-w-init
loop-w-init c =
    let a = c.args in
    (refl, no_words a.size a.skip a.places.now a.words.now _)

pub draw_word-requires : goal.draw_word-requires
draw_word-requires c =
    let l = (goal.at.draw_word-requires c).In-loop-w in
    let a = (start (goal.at.In-loop-w l).At-loop-w).args in
    let r = (start (goal.at.In-loop-w l).At-loop-w).requires in record {
      fact_1 = omega (arith, r.le_size, length-part a.places.now (a.skip + l.loop-w.w * a.size) a.size (omega (arith, room l, r.le_size)));
      fact_2 = part_fits a.size a.skip l.loop-w.w (length a.words.now) (omega arith) a.places.now (omega (arith, r.le_size)) refl (subst (PlacesFit a.places.now 0 (a.skip + length a.words.now * a.size)) (search rules) r.places_fit);
    }

pub loop-w-preserved : goal.loop-w-preserved
loop-w-preserved c =
    let l = (goal.at.loop-w-preserved c).At-loop-w in
    let a = (start l).args in (
      search rules,
      word-drawn a.size a.skip a.places.now a.words.now (omega arith) l.loop-w.w (omega arith) _ l.loop-w.invariant.1 c.draw_word.ensures,
    )

pub returns : goal.returns
returns c =
    let s = start (goal.at.returns c).At-loop-w in
    let a = s.args in
    words-drawn a.size a.skip a.places.now a.words.now a.grid.now c.loop-w.w
    (zeros-drawn a.places.now a.skip (omega arith) a.grid.now c.draw_zeros.ensures) c.loop-w.invariant.1 (omega arith)
