-- The first w words and marks are written.
-- Assumes nothing.
use Rattle.std.proofs.Common.{refl, ◌+◌, ◌*◌, ◌≤◌, arith, length, length-set}
use Rattle.list_laws.specs.Filled.{filled_none, filled-step}
use Rattle.symbol.specs.GridWords.{value, unread}
use Rattle.sampling.specs.Sampled.{table_module}
use Rattle.symbol.specs.Tables.{length-part, word_room, part_fits}
use Rattle.sampling.proofs.WordTurns.{word_value, word-unread}
use Rattle.sampling.proofs.words.read_words.Goals as goal
use Rattle.sampling.proofs.words.read_words.Goals.{At-loop-w, In-loop-w, Start}

abbrev start : At-loop-w → Start
start c = (goal.at.At-loop-w c).Start

room : (c : In-loop-w)
    → let a = (start (goal.at.In-loop-w c).At-loop-w).args in
    a.skip + c.loop-w.w * a.size + a.size ≤ a.skip + length a.words.now * a.size
room c = let a = (start (goal.at.In-loop-w c).At-loop-w).args in word_room a.size a.skip c.loop-w.w (length a.words.now) (omega arith)

pub loop-w-init : goal.loop-w-init
loop-w-init c = (refl, refl, filled_none _ _, filled_none _ _)

pub read_word-word-requires : goal.read_word-word-requires
read_word-word-requires c =
    let l = (goal.at.read_word-word-requires c).In-loop-w in
    let s = start (goal.at.In-loop-w l).At-loop-w in
    let a = s.args in record {
      fact_1 = omega (arith, s.requires.le_size, length-part a.places.now (a.skip + l.loop-w.w * a.size) a.size (omega (arith, room l, s.requires.le_size)));
      fact_2 = part_fits a.size a.skip l.loop-w.w (length a.words.now) (omega arith) a.places.now (omega (arith, s.requires.le_size)) refl s.requires.places_fit;
    }

pub loop-w-preserved : goal.loop-w-preserved
loop-w-preserved c =
    let t = (goal.at.loop-w-preserved c).In-loop-w in
    let s = start (goal.at.In-loop-w t).At-loop-w in
    let l = t.loop-w in
    let a = s.args in
    let enough : a.skip + l.w * a.size + a.size ≤ length a.places.now = omega (arith, room t, s.requires.le_size) in
    let p = a.places.now in
    let u = a.upright.now in
    let read = c.read_word-word.ensures in (
      simp length-set l.invariant.0,
      simp length-set l.invariant.1,
      filled-step (λ w. value a.size (table_module a.size a.skip p u w)) l.w _ l.invariant.2
          (word_value a.size a.skip p u l.w enough read.0) (omega arith),
      filled-step (λ w. unread a.size (table_module a.size a.skip p u w)) l.w _ l.invariant.3
          (word-unread a.size a.skip p u l.w enough read.1) (omega arith),
    )
