-- The value and the mark of the modules so far.
-- Assumes nothing.
use Rattle.std.proofs.Common.{ℕ, ◌≤◌, arith}
use Rattle.symbol.specs.Tables.{fits-at}
use Rattle.sampling.specs.Sampled.{tabled}
use Rattle.sampling.proofs.WordTurns.{no_value, no-unread, value-next, unread-next, value-most}
use Rattle.sampling.proofs.words.read_word.Goals as goal
use Rattle.sampling.proofs.words.read_word.Goals.{In-loop-place}

-- the word's modules
abbrev modules : In-loop-place → ℕ → ℕ
modules c = tabled c.args.places.now c.args.upright.now

room : (c : In-loop-place) → c.loop-place.value ≤ 4096
room c = value-most (modules c) c.loop-place.place-index c.loop-place.invariant.0 (omega arith)

pub loop-place-init : goal.loop-place-init
loop-place-init c = (no_value _, no-unread _)

pub bounds-upright-at : goal.bounds-upright-at
bounds-upright-at c = omega (arith, fits-at c.args.places.now c.requires.fact_2 c.loop-place.place-index (omega arith))

pub overflow_mul-value : goal.overflow_mul-value
overflow_mul-value c = omega (arith, room (goal.at.overflow_mul-value c).In-loop-place)

pub overflow_add-value : goal.overflow_add-value
overflow_add-value c = omega (arith, room (goal.at.overflow_add-value c).In-loop-place)

pub loop-place-preserved : goal.loop-place-preserved
loop-place-preserved c =
    let l = c.loop-place in
    let u = tabled c.args.places.now c.args.upright.now in
    (value-next u l.place-index l.invariant.0, unread-next u l.place-index l.invariant.1 c.mark_with-mark.ensures)
